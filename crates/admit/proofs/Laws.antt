-- The tests of the rules at a number.
-- Assumes nothing.
use Rattle.std.proofs.Common.{Ok, Err}
use Prim.Native.Nat.{ℕ, ◌<◌, ◌≤◌}
use native.Mathlib.Omega.{arith}
use mathlib.Core.Bool.{Bool, true, false, cond, or-false}
use mathlib.Core.List.{List}
use mathlib.Core.Path.{◌≡◌, refl, sym, ap, ap₂, ◌∙◌, fun_ext}
use lib.Dec.{eqb, leb}
use borrow.Author.Tests.{leb-true}
use Rattle.errno.specs.Outcome.{Outcome, granted, refused}
use Rattle.errno.specs.declared.Errno.{Errno}
use Rattle.errno.specs.declared.Errno.TheVariants.{Eaddrinuse, Eaddrnotavail}
use Rattle.mask.specs.Bits.{Bits, some_below, both, included, no_bits}
use Rattle.rules.specs.declared.Kind.{Kind}
use Rattle.rules.specs.declared.Kind.TheVariants.{Adapter, Domain, Control}
use Rattle.rules.specs.State.{State, queues}
use Rattle.rules.specs.Queues.{reserved}
use Rattle.rules.specs.Commands.{single, limit_of, adding, assigned_elsewhere}
use Rattle.layout.specs.Layout.{device_in, limits_in, host_in, state_in}
use Rattle.admit.specs.Admits.{answer_of}

-- a number alone, as a mask with one bit set
pub one_bit : (n : ℕ) {m o : Bits} → m ≡ included n o → o ≡ no_bits → m ≡ single n
unfolding included no_bits single
one_bit n e f = e ∙ ap (included n) f ∙ fun_ext (λ i. or-false (eqb i n))

-- a limit is at most 255
pub limit_small : (k : Kind) (ws : List ℕ) → limit_of k (limits_in ws) ≤ 255
unfolding limit_of limits_in
limit_small Adapter ws = omega arith
limit_small Domain ws = omega arith
limit_small Control ws = omega arith

-- a number in range is below 256
pub in_range_small : (k : Kind) (ws : List ℕ) (n : ℕ) → leb n (limit_of k (limits_in ws)) ≡ true → n < 256
in_range_small k ws n e = omega (arith, leb-true n (limit_of k (limits_in ws)) e, limit_small k ws)

-- a test that was found true or false
pub found : {x y t : Bool} → x ≡ t → x ≡ y → t ≡ y
found p q = sym p ∙ q

-- what a test of the queues to be added finds
pub by_tests : (m : Bits) (p : ℕ) (ws qs : List ℕ) (t : State) (x y : Bool) → x ≡ some_below queues (both m (reserved (host_in ws)))
    → y ≡ some_below queues (both m (assigned_elsewhere p (device_in ws)))
    → cond x (Err Eaddrnotavail) (cond y (Err Eaddrinuse) (Ok tt)) ≡ answer_of (adding m p (state_in ws qs) t)
unfolding adding state_in
by_tests m p ws qs t x y e f =
    ap₂ (λ (a b : Bool). cond a (Err Eaddrnotavail) (cond b (Err Eaddrinuse) (Ok tt))) e f
    ∙ go (some_below queues (both m (reserved (host_in ws)))) (some_below queues (both m (assigned_elsewhere p (device_in ws))))
  where
    go : (a b : Bool) → cond a (Err Eaddrnotavail) (cond b (Err Eaddrinuse) (Ok tt))
        ≡ answer_of (cond a (refused Eaddrnotavail) (cond b (refused Eaddrinuse) (granted t)))
    go true b = refl
    go false true = refl
    go false false = refl

-- an answer that is told tells the outcome
pub refused_as : (o : Outcome State) (e : Errno) → Err e ≡ answer_of o → o ≡ refused e
refused_as (granted s) e h = let z : ◌≡◌ {A = ℕ} 0 1 = cc in absurd (omega arith)
refused_as (refused f) e h = cc

pub done_as : (m : Bits) (p : ℕ) (s t : State) → Ok tt ≡ answer_of (adding m p s t) → adding m p s t ≡ granted t
unfolding adding
done_as m p s t h = go (some_below queues (both m (reserved s.host))) (some_below queues (both m (assigned_elsewhere p s.device))) h
  where
    go : (a b : Bool) → Ok tt ≡ answer_of (cond a (refused Eaddrnotavail) (cond b (refused Eaddrinuse) (granted t)))
        → cond a (refused Eaddrnotavail) (cond b (refused Eaddrinuse) (granted t)) ≡ granted t
    go true b h = let z : ◌≡◌ {A = ℕ} 0 1 = cc in absurd (omega arith)
    go false true h = let z : ◌≡◌ {A = ℕ} 0 1 = cc in absurd (omega arith)
    go false false h = refl
