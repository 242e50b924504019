-- Every row of the table of settings holds.
-- Assumes nothing.
use Prim.Native.Nat.{ℕ, ◌+◌, ◌*◌, ◌/◌, ◌%◌, ◌<◌}
use native.Mathlib.Nat.{div-add-mod', zero-min}
use native.Mathlib.Omega.{arith}
use mathlib.Core.Bool.{Bool, true, false, cond, not, ◌&&◌, ◌||◌}
use mathlib.Core.List.{List, [], ◌∷◌, ◌++◌}
use mathlib.Core.Path.{◌≡◌, refl, sym, ap, subst, ◌∙◌}
use lib.Dec.{eqb, leb}
use lib.ListN.{replicate}
use borrow.Author.Tests.{eqb-true, ne_eqb}
use Rattle.errno.specs.Ascii.{ascii}
use Rattle.errno.specs.Errno.{number_of}
use Rattle.errno.specs.Outcome.{granted, refused}
use Rattle.errno.specs.declared.Errno.TheVariants.{Einval}
use Rattle.mask.specs.Bits.{Bits, digit, bit_at, no_bits, all_bits, bits_above, included, excluded, both, some_below, number, numbers}
use Rattle.digits.specs.Digits.{digit_of, body, starts_hex}
use Rattle.number.specs.Text.{digits_after, digits, any_base, at_most, number_rule, number_text}
use Rattle.masktext.specs.Text.{all_hex, hex_mask, signed, item, and_then, items, before, parts, mask_text}
use Rattle.rules.specs.declared.Driver.{Driver}
use Rattle.rules.specs.declared.Driver.TheVariants.{Unbound, Host, Passthrough}
use Rattle.rules.specs.declared.Moved.TheVariants.{Idle, Released, BoundPassthrough}
use Rattle.rules.specs.declared.Configuration.{Configuration}
use Rattle.rules.specs.State.{Config, State, in_product, no_device, fresh, queues}
use Rattle.rules.specs.Queues.{reserved, configured, target_of, after, rebound, due, due_at, remaining, move_answer, moves, moves_used, passed, guest_domains, guest_adapters}
use Rattle.rules.specs.Queues as Queues
use Rattle.rules.specs.Commands.{errno_of, state_after, same_id, first_from, slot_of, free_slot, with_device, with_host, on_device, reading, new_device, create, numbers_of, with_numbers, limit_of, single, stored, beyond_limits, with_config, configure}
use Rattle.rules.proofs.Sums.{sum_change, zero_sum}
use Rattle.rules.proofs.Moves.{remaining_moves, rebound_other}
use Rattle.rules.proofs.Products.{product_apid, product_apqi}
use Rattle.layout.specs.Layout.{words_of}
use Rattle.layout.proofs.Laws.{words_bits}
use Rattle.model.specs.Steps.{Step, move, queue_of, answers, after_all}
use Rattle.lines.specs.Lines.{set_from}
use Rattle.settings.specs.Table.{mask_with, set_bits, shown, mask_or_none, read_mask, id_of, words_with, limited, unreserved, two_devices, one_unbound, new, adapter, domain, apmask, aqmask, config, adapters_in, domains_in, Settles, Every, table}
use Rattle.settings.proofs.Quick.{paired_adapters, paired_domains, meets_host, meets_elsewhere, quick_assign_at, quick_set_host, quick_rule, quick_answers, quick_after, answers_quick, after_quick}

-- ---- what is computed: texts and masks

texts : (shown (mask_text (ascii "0x41") no_bits) ≡ granted (1 ∷ 7 ∷ []))
    × (shown (mask_text (ascii "0x7d") no_bits) ≡ granted (1 ∷ 2 ∷ 3 ∷ 4 ∷ 5 ∷ 7 ∷ []))
    × (shown (mask_text (ascii "+0,-6,+0x47,-0xf0") no_bits) ≡ granted (0 ∷ 71 ∷ []))
    × (shown (mask_text (ascii "+255") no_bits) ≡ granted (255 ∷ []))
    × (shown (mask_text (ascii "+256") no_bits) ≡ refused Einval)
    × (reserved (record { apmask = read_mask "0xffff"; aqmask = read_mask "0x40" }) (15 * 256 + 1) ≡ true)
    × (reserved (record { apmask = read_mask "0xffff"; aqmask = read_mask "0x40" }) (16 * 256 + 1) ≡ false)
    × (reserved (record { apmask = read_mask "0xffff"; aqmask = read_mask "0x40" }) (15 * 256 + 0) ≡ false)
unfolding ascii digit bit_at no_bits included excluded digit_of body starts_hex digits_after digits any_base at_most number_rule all_hex hex_mask signed item and_then items before parts mask_text set_from set_bits shown mask_or_none read_mask reserved in_product
texts = (refl, refl, refl, refl, refl, refl, refl, refl)

-- ---- what is computed: lists of steps

abbrev clash : List Step
clash =
    unreserved
    ++ (new 1 ∷ adapter 1 "5" ∷ domain 1 "4" ∷ new 2 ∷ domain 2 "4" ∷ domain 2 "6" ∷ aqmask "+6" ∷ apmask "+5" ∷ adapter 2 "5" ∷ [])

abbrev regained : List Step
regained = unreserved ++ (new 1 ∷ adapter 1 "5" ∷ domain 1 "4" ∷ apmask "+5" ∷ apmask "-5" ∷ aqmask "+4" ∷ apmask "+5" ∷ [])

abbrev fewer : List Step
fewer = one_unbound ++ (config (5 ∷ 6 ∷ []) (4 ∷ []) ∷ [])

abbrev exchange : List Step
exchange = config (5 ∷ []) (4 ∷ []) ∷ move 5 4 ∷ apmask "0x0" ∷ []

abbrev q : ℕ
q = 5 * 256 + 4

lists : (quick_answers two_devices (limited 255) ≡ (0 ∷ 0 ∷ 0 ∷ 0 ∷ 0 ∷ 0 ∷ 0 ∷ 0 ∷ 0 ∷ 0 ∷ 0 ∷ []))
    × (quick_answers (two_devices ++ (domain 2 "6" ∷ [])) (limited 255) ≡ (0 ∷ 0 ∷ 0 ∷ 0 ∷ 0 ∷ 0 ∷ 0 ∷ 0 ∷ 0 ∷ 0 ∷ 0 ∷ 98 ∷ []))
    × (quick_answers (new 1 ∷ adapter 1 "5" ∷ domain 1 "4" ∷ []) (limited 255) ≡ (0 ∷ 0 ∷ 99 ∷ []))
    × (quick_answers (new 1 ∷ adapter 1 "63" ∷ adapter 1 "64" ∷ []) (limited 63) ≡ (0 ∷ 0 ∷ 19 ∷ []))
    × (quick_answers regained (limited 255) ≡ (0 ∷ 0 ∷ 0 ∷ 0 ∷ 0 ∷ 0 ∷ 0 ∷ 0 ∷ 98 ∷ []))
    × (quick_answers clash (limited 255) ≡ (0 ∷ 0 ∷ 0 ∷ 0 ∷ 0 ∷ 0 ∷ 0 ∷ 0 ∷ 0 ∷ 0 ∷ 99 ∷ []))
unfolding ascii digit bit_at no_bits all_bits included excluded both some_below digit_of body starts_hex digits_after digits any_base at_most number_rule number_text all_hex hex_mask signed item and_then items before parts mask_text fresh no_device in_product errno_of number_of state_after same_id first_from slot_of free_slot with_device with_host on_device reading new_device create numbers_of with_numbers limit_of single id_of paired_adapters paired_domains meets_host meets_elsewhere quick_assign_at quick_set_host quick_rule quick_answers
lists = (refl, refl, refl, refl, refl, refl)

guest_lists : (adapters_in (quick_after one_unbound (limited 255)) ≡ (5 ∷ []))
    × (domains_in (quick_after one_unbound (limited 255)) ≡ (4 ∷ 171 ∷ []))
    × (adapters_in (quick_after fewer (limited 255)) ≡ (5 ∷ 6 ∷ []))
    × (domains_in (quick_after fewer (limited 255)) ≡ (4 ∷ []))
unfolding ascii digit bit_at no_bits all_bits bits_above included excluded both some_below number numbers digit_of body starts_hex digits_after digits any_base at_most number_rule number_text all_hex hex_mask signed item and_then items before parts mask_text fresh no_device in_product errno_of number_of state_after same_id first_from slot_of free_slot with_device with_host on_device reading new_device create numbers_of with_numbers limit_of single id_of paired_adapters paired_domains meets_host meets_elsewhere quick_assign_at quick_set_host quick_rule quick_after mask_with words_with stored beyond_limits with_config configure reserved configured target_of after rebound move_answer passed guest_domains guest_adapters Queues.move queue_of set_from set_bits
guest_lists = (refl, refl, refl, refl)

-- ---- one queue that is due, and no other

-- the moves remaining where only queue n needs any
only_due : (s : State) (n : ℕ) → n < queues → ((j : ℕ) → j < queues → (j ≡ n → ⊥) → due_at s j ≡ 0) → remaining s ≡ due_at s n
unfolding remaining
only_due s n h none =
    omega (
      arith,
      sum_change queues n (due_at s) (λ j. 0) h none,
      zero_sum queues (λ j. 0) (λ j l. refl),
    )

-- a queue that is not configured and not bound needs none
not_due : (s : State) (j : ℕ) → s.driver j ≡ Unbound → (configured s.config j ≡ true → ⊥) → due_at s j ≡ 0
unfolding due_at target_of
not_due s j e h = ap (λ (d : Driver). due d (Queues.target s j)) e ∙ go (configured s.config j) refl
  where
    go : (b : Bool) → configured s.config j ≡ b
        → due Unbound (cond b (cond (reserved s.host j) Host (cond (leb 10 (s.config.types (j / 256))) Passthrough Unbound)) Unbound) ≡ 0
    go true f = absurd (h f)
    go false f = refl

-- a mask with one bit
one_other : (n j : ℕ) → (j ≡ n → ⊥) → mask_with (n ∷ []) j ≡ false
unfolding mask_with included no_bits
one_other n j h = ap (λ (b : Bool). b || false) (ne_eqb j n h)

one_only : (n j : ℕ) → mask_with (n ∷ []) j ≡ true → j ≡ n
unfolding mask_with included no_bits
one_only n j e = eqb-true j n (go (eqb j n) e)
  where
    go : (b : Bool) → (b || false) ≡ true → b ≡ true
    go true f = refl
    go false f = f

one_bit : (n i : ℕ) → n < 256 → bit_at 64 (words_with (n ∷ [])).words i ≡ true → i ≡ n
unfolding words_with words_of
one_bit n i h e = one_only n i (sym (ap (λ (m : Bits). m i) (words_bits (mask_with (n ∷ [])) (λ j l. one_other n j (λ f. omega arith)))) ∙ e)

-- the state of setting 13
abbrev exchanged : State
exchanged = quick_after exchange (limited 255)

either_same : (b : Bool) (d : Driver) → cond b d d ≡ d
either_same true d = refl
either_same false d = refl

abbrev given : Configuration
given = record { adapters = words_with (5 ∷ []); domains = words_with (4 ∷ []); controls = words_with []; types = replicate 256 10 }

abbrev configured13 : State
configured13 = with_config (stored given) (limited 255)

config_is : exchanged.config ≡ stored given
unfolding ascii digit bit_at no_bits all_bits bits_above included excluded both some_below number numbers digit_of body starts_hex all_hex hex_mask mask_text fresh no_device state_after with_host reading meets_elsewhere quick_set_host quick_rule quick_after mask_with words_with beyond_limits configure Queues.move queue_of with_config
config_is = refl

driver_is : exchanged.driver ≡ rebound q (after (configured13.driver q) (move_answer q configured13)) configured13.driver
unfolding ascii digit bit_at no_bits all_bits bits_above included excluded both some_below number numbers digit_of body starts_hex all_hex hex_mask mask_text fresh no_device state_after with_host reading meets_elsewhere quick_set_host quick_rule quick_after mask_with words_with beyond_limits configure Queues.move queue_of with_config
driver_is = refl

others_unbound : (j : ℕ) → (j ≡ q → ⊥) → exchanged.driver j ≡ Unbound
unfolding with_config fresh
others_unbound j h =
    ap (λ (f : ℕ → Driver). f j) driver_is
    ∙ rebound_other q (after (configured13.driver q) (move_answer q configured13)) configured13.driver j h
    ∙ either_same (configured (limited 255).config j && not (configured (stored given) j)) Unbound

one_configured : (j : ℕ) → configured exchanged.config j ≡ true → j ≡ q
unfolding configured stored
one_configured j e =
    let f : configured (stored given) j ≡ true = subst (λ (c : Config). configured c j ≡ true) config_is e in
    let a : j / 256 ≡ 5 = one_bit 5 (j / 256) (omega arith) (product_apid (stored given).adapters (stored given).domains j f) in
    let d : j % 256 ≡ 4 = one_bit 4 (j % 256) (omega arith) (product_apqi (stored given).adapters (stored given).domains j f) in
    omega (arith, div-add-mod' j 256)

-- what the moves of queue (5,4) answer
three_moves : (due_at exchanged q ≡ 2)
    × (move_answer q exchanged ∷ move_answer q (moves 1 q exchanged) ∷ move_answer q (moves 2 q exchanged) ∷ [] ≡ (Released ∷ BoundPassthrough ∷ Idle ∷ []))
unfolding ascii digit bit_at no_bits all_bits bits_above included excluded both some_below number numbers digit_of body starts_hex all_hex hex_mask mask_text fresh no_device state_after with_host reading meets_elsewhere quick_set_host quick_rule quick_after mask_with words_with beyond_limits configure Queues.move queue_of with_config stored in_product due_at target_of configured reserved after rebound move_answer moves
three_moves = (refl, refl)

two_left : remaining exchanged ≡ 2
two_left = only_due exchanged q (omega arith) (λ j l h. not_due exchanged j (others_unbound j h) (λ e. h (one_configured j e))) ∙ three_moves.0

-- ---- the table

settled : (s : State) → s ≡ exchanged → Settles s q (2 ∷ 1 ∷ 0 ∷ []) (Released ∷ BoundPassthrough ∷ Idle ∷ []) 0
unfolding moves_used
settled s e =
    subst (λ (t : State). Settles t q (2 ∷ 1 ∷ 0 ∷ []) (Released ∷ BoundPassthrough ∷ Idle ∷ []) 0) (sym e)
    (left, three_moves.1, zero-min (remaining exchanged))
  where
    one : remaining (moves 1 q exchanged) ≡ 1
    one = omega (arith, two_left, remaining_moves 1 q exchanged (omega arith) (omega (arith, three_moves.0)))

    none : remaining (moves 2 q exchanged) ≡ 0
    none = omega (arith, two_left, remaining_moves 2 q exchanged (omega arith) (omega (arith, three_moves.0)))

    left : remaining exchanged ∷ remaining (moves 1 q exchanged) ∷ remaining (moves 2 q exchanged) ∷ [] ≡ (2 ∷ 1 ∷ 0 ∷ [])
    left = cc (two_left, one, none)

-- a list's answers, and a device's guest masks after a list, by what was computed
by_list : (steps : List Step) (n : ℕ) {to : List ℕ} → quick_answers steps (limited n) ≡ to → answers steps (limited n) ≡ to
by_list steps n e = answers_quick steps (limited n) ∙ e

by_guest : (f : State → List ℕ) (steps : List Step) {to : List ℕ} → f (quick_after steps (limited 255)) ≡ to → f (after_all steps (limited 255)) ≡ to
by_guest f steps e = ap f (after_quick steps (limited 255)) ∙ e

infixr 5 ◌▸◌
-- a row and the rows after it
◌▸◌ : {A B : Type 0} → A → B → A × B
a ▸ b = (a, b)

pub settings : Every table
unfolding table mask_with
settings =
    texts.0
    ▸ texts.1
    ▸ texts.2
    ▸ texts.3
    ▸ texts.4
    ▸ texts.5
    ▸ texts.6
    ▸ texts.7
    ▸ by_list two_devices 255 lists.0
    ▸ by_list (two_devices ++ (domain 2 "6" ∷ [])) 255 lists.1
    ▸ by_list (new 1 ∷ adapter 1 "5" ∷ domain 1 "4" ∷ []) 255 lists.2
    ▸ by_list (new 1 ∷ adapter 1 "63" ∷ adapter 1 "64" ∷ []) 63 lists.3
    ▸ (by_guest adapters_in one_unbound guest_lists.0, by_guest domains_in one_unbound guest_lists.1)
    ▸ (by_guest adapters_in fewer guest_lists.2, by_guest domains_in fewer guest_lists.3)
    ▸ by_list regained 255 lists.4
    ▸ by_list clash 255 lists.5
    ▸ settled (after_all exchange (limited 255)) (after_quick exchange (limited 255))
    ▸ tt
