-- The rules in a form that computes: a test over all queues is one over adapters and one over domains.
-- Assumes nothing.
use Prim.Native.Nat.{ℕ}
use mathlib.Core.Bool.{Bool, true, false, cond, not, ◌&&◌, and-false}
use mathlib.Core.List.{List, [], ◌∷◌}
use mathlib.Core.Path.{◌≡◌, refl, sym, ap, ap₂, ◌∙◌, fun_ext}
use lib.Dec.{eqb, leb}
use Rattle.errno.specs.Outcome.{Outcome, granted, refused}
use Rattle.errno.specs.declared.Errno.TheVariants.{Enodev, Eaddrinuse, Eaddrnotavail}
use Rattle.mask.specs.Bits.{Bits, some_below, both, no_bits, included}
use Rattle.mask.proofs.Laws.{none_some, some_cong}
use Rattle.number.specs.Text.{number_text}
use Rattle.masktext.specs.Text.{mask_text}
use Rattle.rules.specs.declared.Kind.{Kind}
use Rattle.rules.specs.declared.Kind.TheVariants.{Adapter, Domain, Control}
use Rattle.rules.specs.State.{HostMasks, Device, Devices, State, slots, queues, in_product}
use Rattle.rules.specs.Queues as Queues
use Rattle.rules.specs.Queues.{reserved}
use Rattle.rules.specs.Commands as Commands
use Rattle.rules.specs.Commands.{errno_of, state_after, on_device, reading, numbers_of, with_numbers, with_device, with_host, limit_of, single, paired, adding, assign_at, set_host, product, assigned_elsewhere}
use Rattle.rules.proofs.Products.{taken_by, elsewhere_anywhere}
use Rattle.product.proofs.Laws.{meet, meet_test}
use Rattle.model.specs.Steps.{Command, create, remove, open_it, close_it, assign, unassign, set_apmask, set_aqmask, configure, Step, command, move, queue_of, rule, after, after_all, answers}

-- the adapters and the domains of the queues that a number pairs with
unfoldable pub paired_adapters : Kind → ℕ → Device → Bits
paired_adapters Adapter n v = single n
paired_adapters Domain n v = v.adapters
paired_adapters Control n v = no_bits

unfoldable pub paired_domains : Kind → ℕ → Device → Bits
paired_domains Adapter n v = v.domains
paired_domains Domain n v = single n
paired_domains Control n v = no_bits

paired_product : (k : Kind) (n : ℕ) (v : Device) → paired k n v ≡ in_product (paired_adapters k n v) (paired_domains k n v)
unfolding paired paired_adapters paired_domains in_product no_bits
paired_product Adapter n v = refl
paired_product Domain n v = refl
paired_product Control n v = refl

-- a product that meets one of the host's, or of a device elsewhere
unfoldable pub meets_host : Bits → Bits → HostMasks → Bool
meets_host us ds h = some_below 256 (both us h.apmask) && some_below 256 (both ds h.aqmask)

unfoldable pub meets_elsewhere : Bits → Bits → ℕ → Devices → Bool
meets_elsewhere us ds p vs =
    some_below slots (λ j. not (eqb j p) && ((vs j).present && (some_below 256 (both us (vs j).adapters) && some_below 256 (both ds (vs j).domains))))

host_quick : (us ds : Bits) (h : HostMasks) → some_below queues (both (in_product us ds) (reserved h)) ≡ meets_host us ds h
unfolding meets_host reserved
host_quick us ds h = sym (meet_test (meet us ds h.apmask h.aqmask) refl)

-- a device's queues
device_quick : (us ds : Bits) (v : Device)
    → some_below queues (both (in_product us ds) (product v)) ≡ (v.present && (some_below 256 (both us v.adapters) && some_below 256 (both ds v.domains)))
unfolding product both
device_quick us ds v = go v.present
  where
    go : (b : Bool) → some_below queues (λ q. in_product us ds q && (b && in_product v.adapters v.domains q))
        ≡ (b && (some_below 256 (λ i. us i && v.adapters i) && some_below 256 (λ i. ds i && v.domains i)))
    go true = sym (meet_test (meet us ds v.adapters v.domains) refl)
    go false = none_some queues (λ q. in_product us ds q && false) (λ q h. and-false (in_product us ds q))

elsewhere_quick : (us ds : Bits) (p : ℕ) (vs : Devices) → some_below queues (both (in_product us ds) (assigned_elsewhere p vs)) ≡ meets_elsewhere us ds p vs
unfolding meets_elsewhere
elsewhere_quick us ds p vs =
    taken_by p vs (in_product us ds)
    ∙ some_cong slots (λ j. not (eqb j p) && some_below queues (both (in_product us ds) (product (vs j))))
    (λ j. not (eqb j p) && ((vs j).present && (some_below 256 (both us (vs j).adapters) && some_below 256 (both ds (vs j).domains))))
    (λ j h. ap (λ (b : Bool). not (eqb j p) && b) (device_quick us ds (vs j)))

-- assigning
unfoldable pub quick_assign_at : Kind → ℕ → ℕ → State → Outcome State
quick_assign_at k n p s =
    cond (numbers_of k (s.device p) n) (granted s)
    (cond (meets_host (paired_adapters k n (s.device p)) (paired_domains k n (s.device p)) s.host) (refused Eaddrnotavail)
    (cond (meets_elsewhere (paired_adapters k n (s.device p)) (paired_domains k n (s.device p)) p s.device) (refused Eaddrinuse)
    (granted (with_device p (with_numbers k (included n (numbers_of k (s.device p))) (s.device p)) s))))

assign_quick : (k : Kind) (n p : ℕ) (s : State) → assign_at k n p s ≡ quick_assign_at k n p s
unfolding assign_at quick_assign_at adding
assign_quick k n p s =
    ap (λ (new : Bits). cond (numbers_of k (s.device p) n) (granted s)
    (cond (some_below queues (both new (reserved s.host))) (refused Eaddrnotavail) (cond (some_below queues (both new (assigned_elsewhere p s.device))) (refused Eaddrinuse) (granted t))))
    (paired_product k n (s.device p))
    ∙ ap₂ (λ (x y : Bool). cond (numbers_of k (s.device p) n) (granted s) (cond x (refused Eaddrnotavail) (cond y (refused Eaddrinuse) (granted t))))
    (host_quick (paired_adapters k n (s.device p)) (paired_domains k n (s.device p)) s.host)
    (elsewhere_quick (paired_adapters k n (s.device p)) (paired_domains k n (s.device p)) p s.device)
  where
    t : State
    t = with_device p (with_numbers k (included n (numbers_of k (s.device p))) (s.device p)) s

-- setting the host's masks
unfoldable pub quick_set_host : HostMasks → State → Outcome State
quick_set_host h s = cond (meets_elsewhere h.apmask h.aqmask slots s.device) (refused Eaddrinuse) (granted (with_host h s))

host_mask_quick : (h : HostMasks) (s : State) → set_host h s ≡ quick_set_host h s
unfolding set_host quick_set_host reserved
host_mask_quick h s =
    ap (λ (a : Bits). cond (some_below queues (both (in_product h.apmask h.aqmask) a)) (refused Eaddrinuse) (granted (with_host h s))) (sym (elsewhere_anywhere s.device))
    ∙ ap (λ (b : Bool). cond b (refused Eaddrinuse) (granted (with_host h s))) (elsewhere_quick h.apmask h.aqmask slots s.device)

-- a command's rule
unfoldable pub quick_rule : Command → State → Outcome State
quick_rule (create i) s = Commands.create i s
quick_rule (remove i) s = Commands.remove i s
quick_rule (open_it i) s = Commands.open_device i s
quick_rule (close_it i) s = Commands.close_device i s
quick_rule (assign k i text) s =
    reading (number_text text) (λ n. on_device i s (λ p. cond (leb n (limit_of k s.limits)) (quick_assign_at k n p s) (refused Enodev)))
quick_rule (unassign k i text) s = Commands.unassign k i text s
quick_rule (set_apmask text) s = reading (mask_text text s.host.apmask) (λ m. quick_set_host (record { apmask = m; aqmask = s.host.aqmask }) s)
quick_rule (set_aqmask text) s = reading (mask_text text s.host.aqmask) (λ m. quick_set_host (record { apmask = s.host.apmask; aqmask = m }) s)
quick_rule (configure c) s = Commands.configure c s

rule_quick : (c : Command) (s : State) → rule c s ≡ quick_rule c s
unfolding rule quick_rule Commands.assign Commands.set_apmask Commands.set_aqmask
rule_quick (create i) s = refl
rule_quick (remove i) s = refl
rule_quick (open_it i) s = refl
rule_quick (close_it i) s = refl
rule_quick (assign k i text) s =
    ap (reading (number_text text))
    (fun_ext (λ n. ap (on_device i s) (fun_ext (λ p. ap (λ (o : Outcome State). cond (leb n (limit_of k s.limits)) o (refused Enodev)) (assign_quick k n p s)))))
rule_quick (unassign k i text) s = refl
rule_quick (set_apmask text) s =
    ap (reading (mask_text text s.host.apmask)) (fun_ext (λ m. host_mask_quick (record { apmask = m; aqmask = s.host.aqmask }) s))
rule_quick (set_aqmask text) s =
    ap (reading (mask_text text s.host.aqmask)) (fun_ext (λ m. host_mask_quick (record { apmask = s.host.apmask; aqmask = m }) s))
rule_quick (configure c) s = refl

-- the answers to a list, and the state after it
unfoldable pub quick_answers : List Step → State → List ℕ
quick_answers [] s = []
quick_answers (command c ∷ xs) s = errno_of (quick_rule c s) ∷ quick_answers xs (state_after s (quick_rule c s))
quick_answers (move a d ∷ xs) s = quick_answers xs (Queues.move (queue_of a d) s)

pub answers_quick : (xs : List Step) (s : State) → answers xs s ≡ quick_answers xs s
unfolding answers quick_answers
answers_quick [] s = refl
answers_quick (command c ∷ xs) s =
    ap (λ (o : Outcome State). errno_of o ∷ answers xs (state_after s o)) (rule_quick c s)
    ∙ ap (λ (es : List ℕ). errno_of (quick_rule c s) ∷ es) (answers_quick xs (state_after s (quick_rule c s)))
answers_quick (move a d ∷ xs) s = answers_quick xs (Queues.move (queue_of a d) s)

unfoldable pub quick_after : List Step → State → State
quick_after [] s = s
quick_after (command c ∷ xs) s = quick_after xs (state_after s (quick_rule c s))
quick_after (move a d ∷ xs) s = quick_after xs (Queues.move (queue_of a d) s)

pub after_quick : (xs : List Step) (s : State) → after_all xs s ≡ quick_after xs s
unfolding after_all after quick_after
after_quick [] s = refl
after_quick (command c ∷ xs) s =
    ap (λ (o : Outcome State). after_all xs (state_after s o)) (rule_quick c s) ∙ after_quick xs (state_after s (quick_rule c s))
after_quick (move a d ∷ xs) s = after_quick xs (Queues.move (queue_of a d) s)
