-- Setting either host mask, by one law for each of the three ways that it can go.
-- Assumes nothing.
use Rattle.std.proofs.Common.{Ok, Err}
use Prim.Native.Nat.{ℕ}
use mathlib.Core.Bool.{Bool, true, false, cond}
use mathlib.Core.List.{List}
use mathlib.Core.Path.{◌≡◌, refl, sym, ap, ◌∙◌}
use lib.ListN.{length}
use Rattle.errno.specs.Outcome.{Outcome, granted, refused}
use Rattle.errno.specs.declared.Errno.{Errno}
use Rattle.errno.specs.declared.Errno.TheVariants.{Eaddrinuse}
use Rattle.mask.specs.declared.Mask.{Mask}
use Rattle.mask.specs.Bits.{Sized, Bits, bits, bit_at, some_below, both}
use Rattle.masktext.specs.Text.{mask_text}
use Rattle.rules.specs.State.{State, HostMasks, Devices, slots, queues}
use Rattle.rules.specs.Queues.{reserved}
use Rattle.rules.specs.Commands.{Answer, reading, set_host, with_host, assigned, assigned_elsewhere}
use Rattle.rules.proofs.Products.{elsewhere_anywhere}
use Rattle.layout.specs.Carried.{CarriedWords}
use Rattle.layout.specs.Layout.{mask_at, device_in, state_in, put_four, words_of}
use Rattle.layout.proofs.Laws.{words_of_lem, refused_carried, done_carried}
use Rattle.host.specs.Masks.{mask_or, with_mask, unassigned}

-- what the test of the queues to be reserved finds
pub by_taken : (m : Bits) (vs : Devices) (t : Bool) → t ≡ some_below queues (both m (assigned_elsewhere slots vs)) → cond t (Err Eaddrinuse) (Ok tt) ≡ unassigned m vs
unfolding unassigned
by_taken m vs t e =
    ap (λ (b : Bool). cond b (Err Eaddrinuse) (Ok tt)) (e ∙ ap (λ (u : Bits). some_below queues (both m u)) (elsewhere_anywhere vs))

-- the mask lies at word `at`, and `host` is both masks with it replaced
module _ (text ws : List ℕ) (at : ℕ) (host : Bits → HostMasks) (rule : State → Outcome State)
    (ruled : (qs : List ℕ) → rule (state_in ws qs) ≡ reading (mask_text text (mask_at ws at)) (λ m. set_host (host m) (state_in ws qs)))
    (put : (m : List ℕ) → length m ≡ 4 → (qs : List ℕ) → state_in (put_four ws at m) qs ≡ with_host (host (bit_at 64 m)) (state_in ws qs)) where
  -- the text is bad
  pub text_refused : {e : Errno} → refused e ≡ mask_text text (mask_at ws at) → CarriedWords rule (with_mask at text) ws ws (Err e)
  unfolding reading
  text_refused {e} read =
      refused_carried rule (with_mask at text) ws e
      (λ qs. ruled qs ∙ ap (λ (o : Outcome Bits). reading o (λ m. set_host (host m) (state_in ws qs))) (sym read))

  -- the text says a mask
  module _ (new : Mask) (read : granted (bits new) ≡ mask_text text (mask_at ws at)) where
    -- whether a queue that would be reserved is assigned
    in_use : Bool
    in_use = some_below queues (both (reserved (host (bits new))) (assigned (device_in ws)))

    comes : (qs : List ℕ) → rule (state_in ws qs) ≡ cond in_use (refused Eaddrinuse) (granted (with_host (host (bits new)) (state_in ws qs)))
    unfolding reading set_host state_in in_use
    comes qs = ruled qs ∙ ap (λ (o : Outcome Bits). reading o (λ m. set_host (host m) (state_in ws qs))) (sym read)

    pub mask_refused : {e : Errno} → Err e ≡ unassigned (reserved (host (bits new))) (device_in ws) → CarriedWords rule (with_mask at text) ws ws (Err e)
    unfolding unassigned in_use
    mask_refused {e} h = refused_carried rule (with_mask at text) ws e (λ qs. comes qs ∙ go _ in_use h)
      where
        go : (t : State) (b : Bool) → Err e ≡ cond {A = Answer} b (Err Eaddrinuse) (Ok tt) → cond b (refused Eaddrinuse) (granted t) ≡ refused e
        go t true h = cc
        go t false h = cc

    -- the words of a mask that is put
    put_words : Sized 64 4 new.words → put_four ws at new.words ≡ with_mask at text ws
    unfolding with_mask mask_or
    put_words four = ap (put_four ws at) (sym (words_of_lem four) ∙ ap words_of (ap (mask_or (mask_at ws at)) read))

    pub mask_set : {vs : List ℕ} → Ok tt ≡ unassigned (reserved (host (bits new))) (device_in ws) → Sized 64 4 new.words → vs ≡ put_four ws at new.words
        → CarriedWords rule (with_mask at text) ws vs (Ok tt)
    unfolding unassigned in_use
    mask_set h four e =
        done_carried rule (with_mask at text) ws (λ qs. with_host (host (bits new)) (state_in ws qs)) (e ∙ put_words four) (λ qs. comes qs ∙ go _ in_use h)
        (λ qs. ap (λ (l : List ℕ). state_in l qs) (sym (put_words four)) ∙ put new.words four.long qs)
      where
        go : (t : State) (b : Bool) → Ok tt ≡ cond {A = Answer} b (Err Eaddrinuse) (Ok tt) → cond b (refused Eaddrinuse) (granted t) ≡ granted t
        go t true h = cc
        go t false h = refl
