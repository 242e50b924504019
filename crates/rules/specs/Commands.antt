-- The commands, with their checks in order (RULES.md, "Commands"). A refusal changes nothing.
-- Assumes nothing.
use Rattle.std.specs.Prelude.{ℕ, zero, suc, Bool, true, false, cond, not, ◌&&◌, ◌||◌, List, get_or, eqb, ltb, leb, Option, Some, None, Result, Ok, Err}
use Rattle.errno.specs.Outcome.{Outcome, granted, refused}
use Rattle.errno.specs.declared.Errno.{Errno}
use Rattle.errno.specs.declared.Errno.TheVariants.{Enoent, Ebusy, Eexist, Enodev, Einval, Enospc, Eaddrinuse, Eaddrnotavail}
use Rattle.errno.specs.Errno.{number_of}
use Rattle.mask.specs.Bits.{Bits, bits, no_bits, some_below, both, bits_above, included, excluded}
use Rattle.number.specs.Text.{number_text}
use Rattle.masktext.specs.Text.{mask_text}
use Rattle.rules.specs.declared.Driver.TheVariants.{Unbound}
use Rattle.rules.specs.declared.Id.{Id}
use Rattle.rules.specs.declared.Configuration.{Configuration}
use Rattle.rules.specs.declared.Kind.{Kind}
use Rattle.rules.specs.declared.Kind.TheVariants.{Adapter, Domain, Control}
use Rattle.rules.specs.State.{Limits, HostMasks, Config, Device, Devices, State, slots, queues, in_product, no_device}
use Rattle.rules.specs.Queues.{reserved, configured}

-- what a command answers
abbrev pub Answer : Type 0
Answer = Result (Unit {0}) Errno

-- the errno value of an answer, here or with a value; 0 is no refusal
abbrev pub answered : {A : Type 0} → Result A Errno → ℕ
answered (Ok x) = 0
answered (Err e) = number_of e

-- the errno value of an outcome; 0 is no refusal
unfoldable pub errno_of : Outcome State → ℕ
errno_of (granted s) = 0
errno_of (refused e) = number_of e

-- the state after a command: a refused one changes nothing
unfoldable pub state_after : State → Outcome State → State
state_after s (granted t) = t
state_after s (refused e) = s

-- equal ids
unfoldable pub same_id : Id → Id → Bool
same_id i j = eqb i.hi j.hi && eqb i.lo j.lo

-- the first of the n numbers from k on that p holds of, or k + n
unfoldable pub first_from : ℕ → ℕ → Bits → ℕ
first_from zero k p = k
first_from (suc n) k p = cond (p k) k (first_from n (suc k) p)

-- a slot, or none: a search that ends past the last slot found none
abbrev pub found : ℕ → Option ℕ
found p = cond (ltb p slots) (Some p) None

-- the slot of the device with an id: the first of two that have it; `slots` where there is none
unfoldable pub slot_of : Id → Devices → ℕ
slot_of i vs = first_from slots 0 (λ p. (vs p).present && same_id i (vs p).id)

-- the lowest free slot; `slots` where there is none
unfoldable pub free_slot : Devices → ℕ
free_slot vs = first_from slots 0 (λ p. not (vs p).present)

-- the state with the device at slot p replaced
unfoldable pub with_device : ℕ → Device → State → State
with_device p v s =
    record {
      limits = s.limits;
      host = s.host;
      config = s.config;
      device = λ j. cond (eqb j p) v (s.device j);
      driver = s.driver;
    }

-- the state with the host's masks replaced
unfoldable pub with_host : HostMasks → State → State
with_host h s = record { limits = s.limits; host = h; config = s.config; device = s.device; driver = s.driver }

-- a device's queues: its assigned product, configured or not, open or not
unfoldable pub product : Device → Bits
product v q = v.present && in_product v.adapters v.domains q

-- the queues that are assigned to some device
unfoldable pub assigned : Devices → Bits
assigned vs q = some_below slots (λ p. product (vs p) q)

-- the queues that are assigned to another device than the one at slot p
unfoldable pub assigned_elsewhere : ℕ → Devices → Bits
assigned_elsewhere p vs q = some_below slots (λ j. not (eqb j p) && product (vs j) q)

-- what comes of good text; bad text is refused before anything else is checked
unfoldable pub reading : {A : Type 0} → Outcome A → (A → Outcome State) → Outcome State
reading (granted a) next = next a
reading (refused e) next = refused e

-- a command for the device with an id: ENOENT where there is none
unfoldable pub on_device : Id → State → (ℕ → Outcome State) → Outcome State
on_device i s next = cond (ltb (slot_of i s.device) slots) (next (slot_of i s.device)) (refused Enoent)

-- a device that is given an id: nothing assigned, not open
unfoldable pub new_device : Id → Device
new_device i = record { present = true; is_open = false; id = i; adapters = no_bits; domains = no_bits; controls = no_bits }

-- a device opened or closed
unfoldable pub with_open : Bool → Device → Device
with_open o v =
    record { present = v.present; is_open = o; id = v.id; adapters = v.adapters; domains = v.domains; controls = v.controls }

-- create: EEXIST, then ENOSPC
unfoldable pub create : Id → State → Outcome State
create i s =
    cond (ltb (slot_of i s.device) slots) (refused Eexist)
    (cond (ltb (free_slot s.device) slots) (granted (with_device (free_slot s.device) (new_device i) s)) (refused Enospc))

-- remove: ENOENT, then EBUSY if open
unfoldable pub remove : Id → State → Outcome State
remove i s = on_device i s (λ p. cond (s.device p).is_open (refused Ebusy) (granted (with_device p no_device s)))

-- open: ENOENT, then EBUSY if open
unfoldable pub open_device : Id → State → Outcome State
open_device i s =
    on_device i s (λ p. cond (s.device p).is_open (refused Ebusy) (granted (with_device p (with_open true (s.device p)) s)))

-- close: ENOENT, then EINVAL if not open
unfoldable pub close_device : Id → State → Outcome State
close_device i s =
    on_device i s (λ p. cond (s.device p).is_open (granted (with_device p (with_open false (s.device p)) s)) (refused Einval))

-- the assigned numbers of a kind
unfoldable pub numbers_of : Kind → Device → Bits
numbers_of Adapter v = v.adapters
numbers_of Domain v = v.domains
numbers_of Control v = v.controls

-- a device with the assigned numbers of a kind replaced
unfoldable pub with_numbers : Kind → Bits → Device → Device
with_numbers Adapter m v =
    record { present = v.present; is_open = v.is_open; id = v.id; adapters = m; domains = v.domains; controls = v.controls }
with_numbers Domain m v =
    record { present = v.present; is_open = v.is_open; id = v.id; adapters = v.adapters; domains = m; controls = v.controls }
with_numbers Control m v =
    record { present = v.present; is_open = v.is_open; id = v.id; adapters = v.adapters; domains = v.domains; controls = m }

-- the limit of a kind: control domains use the domain limit
unfoldable pub limit_of : Kind → Limits → ℕ
limit_of Adapter l = l.adapter
limit_of Domain l = l.domain
limit_of Control l = l.domain

-- the number n alone
unfoldable pub single : ℕ → Bits
single n i = eqb i n

-- the queues that a new number pairs with the device's numbers of the other kind; a control domain pairs with none
unfoldable pub paired : Kind → ℕ → Device → Bits
paired Adapter n v = in_product (single n) v.domains
paired Domain n v = in_product v.adapters (single n)
paired Control n v = no_bits

-- the queues that a number would add to a device's product
unfoldable pub adds : Kind → ℕ → Device → Bits
adds k n v q = product (with_numbers k (included n (numbers_of k v)) v) q && not (product v q)

-- a queue to be added is reserved: EADDRNOTAVAIL; then: is assigned elsewhere: EADDRINUSE
unfoldable pub adding : Bits → ℕ → State → State → Outcome State
adding new p s t =
    cond (some_below queues (both new (reserved s.host))) (refused Eaddrnotavail)
    (cond (some_below queues (both new (assigned_elsewhere p s.device))) (refused Eaddrinuse) (granted t))

-- assign a number that is in range to the device at slot p; what is assigned is accepted and changes nothing
unfoldable pub assign_at : Kind → ℕ → ℕ → State → Outcome State
assign_at k n p s =
    cond (numbers_of k (s.device p) n) (granted s)
    (adding (paired k n (s.device p)) p s
    (with_device p (with_numbers k (included n (numbers_of k (s.device p))) (s.device p)) s))

-- assign a number: ENOENT, ENODEV, EADDRNOTAVAIL, EADDRINUSE
abbrev pub assign_number : Kind → Id → ℕ → State → Outcome State
assign_number k i n s = on_device i s (λ p. cond (leb n (limit_of k s.limits)) (assign_at k n p s) (refused Enodev))

-- assign: the text, then its number
unfoldable pub assign : Kind → Id → List ℕ → State → Outcome State
assign k i text s = reading (number_text text) (λ n. assign_number k i n s)

-- unassign a number from the device at slot p
abbrev pub unassign_at : Kind → ℕ → ℕ → State → Outcome State
unassign_at k n p s = granted (with_device p (with_numbers k (excluded n (numbers_of k (s.device p))) (s.device p)) s)

-- unassign a number: ENOENT, ENODEV
abbrev pub unassign_number : Kind → Id → ℕ → State → Outcome State
unassign_number k i n s = on_device i s (λ p. cond (leb n (limit_of k s.limits)) (unassign_at k n p s) (refused Enodev))

-- unassign: the text, then its number
unfoldable pub unassign : Kind → Id → List ℕ → State → Outcome State
unassign k i text s = reading (number_text text) (λ n. unassign_number k i n s)

-- new host masks: EADDRINUSE exactly if a queue reserved under them is assigned
unfoldable pub set_host : HostMasks → State → Outcome State
set_host h s = cond (some_below queues (both (reserved h) (assigned s.device))) (refused Eaddrinuse) (granted (with_host h s))

-- set apmask: the text, EADDRINUSE
unfoldable pub set_apmask : List ℕ → State → Outcome State
set_apmask text s = reading (mask_text text s.host.apmask) (λ m. set_host (record { apmask = m; aqmask = s.host.aqmask }) s)

-- set aqmask: the text, EADDRINUSE
unfoldable pub set_aqmask : List ℕ → State → Outcome State
set_aqmask text s = reading (mask_text text s.host.aqmask) (λ m. set_host (record { apmask = s.host.apmask; aqmask = m }) s)

-- a configuration as it is stored: the type of an adapter that is not configured is 0
unfoldable pub stored : Configuration → Config
stored c =
    record {
      adapters = bits c.adapters;
      domains = bits c.domains;
      controls = bits c.controls;
      types = λ a. cond (bits c.adapters a) (get_or c.types a 0) 0;
    }

-- a bit of a configuration's masks is above its limit
unfoldable pub beyond_limits : Limits → Configuration → Bool
beyond_limits l c =
    some_below 256 (both (bits c.adapters) (bits_above l.adapter))
    || some_below 256 (both (bits c.domains) (bits_above l.domain))
    || some_below 256 (both (bits c.controls) (bits_above l.domain))

-- the state with the configuration replaced: a queue that is no longer configured becomes unbound
unfoldable pub with_config : Config → State → State
with_config c s =
    record {
      limits = s.limits;
      host = s.host;
      config = c;
      device = s.device;
      driver = λ q. cond (configured s.config q && not (configured c q)) Unbound (s.driver q);
    }

-- set configuration: ENODEV
unfoldable pub configure : Configuration → State → Outcome State
configure c s = cond (beyond_limits s.limits c) (refused Enodev) (granted (with_config (stored c) s))
