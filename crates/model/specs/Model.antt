-- The reference model (RULES.md, "Reference model and demand 3"). It is fed commands and nothing else, and sees no move and
-- no driver: a queue's driver is always its target. It is written over pairs of an APID and an APQI, apart from the rules.
-- Assumes nothing.
use Rattle.std.specs.Prelude.{ℕ, zero, suc, Bool, true, false, cond, not, ◌&&◌, ◌||◌, List, [], ◌∷◌, get_or, eqb, ltb, leb}
use Rattle.errno.specs.Outcome.{Outcome, granted, refused}
use Rattle.errno.specs.Errno.{number_of}
use Rattle.errno.specs.declared.Errno.{Errno}
use Rattle.errno.specs.declared.Errno.TheVariants.{Enoent, Ebusy, Eexist, Enodev, Einval, Enospc, Eaddrinuse, Eaddrnotavail}
use Rattle.mask.specs.Bits.{Bits, bits, some_below}
use Rattle.number.specs.Text.{number_text}
use Rattle.masktext.specs.Text.{mask_text}
use Rattle.rules.specs.declared.Driver.{Driver}
use Rattle.rules.specs.declared.Driver.TheVariants.{Unbound, Host, Passthrough}
use Rattle.rules.specs.declared.Id.{Id}
use Rattle.rules.specs.declared.Kind.{Kind}
use Rattle.rules.specs.declared.Kind.TheVariants.{Adapter, Domain, Control}
use Rattle.rules.specs.declared.Configuration.{Configuration}
use Rattle.rules.specs.State.{Device}
use Rattle.model.specs.Steps.{Command, create, remove, open_it, close_it, assign, unassign, set_apmask, set_aqmask, configure}

-- what the model keeps
pub record Model : Type 0 where
  pub highest_adapter : ℕ
  pub highest_domain : ℕ
  pub apmask : Bits
  pub aqmask : Bits
  pub adapters : Bits
  pub domains : Bits
  pub controls : Bits
  pub types : ℕ → ℕ
  pub device : ℕ → Device

-- the most devices that there can be
abbrev pub most : ℕ
most = 8

-- some pair of an APID and an APQI
unfoldable pub some_pair : (ℕ → ℕ → Bool) → Bool
some_pair f = some_below 256 (λ a. some_below 256 (λ d. f a d))

-- a device has an id
unfoldable pub named : Id → Device → Bool
named i v = v.present && (eqb i.hi v.id.hi && eqb i.lo v.id.lo)

-- the id is known
unfoldable pub known : Id → Model → Bool
known i m = some_below most (λ p. named i (m.device p))

-- there is room for a device
unfoldable pub room : Model → Bool
room m = some_below most (λ p. not (m.device p).present)

-- the lowest slot from k on, of n, that a test holds of
unfoldable pub lowest : ℕ → ℕ → (ℕ → Bool) → ℕ
lowest zero k t = k
lowest (suc n) k t = cond (t k) k (lowest n (suc k) t)

-- the slot of the device with an id
unfoldable pub slot : Id → Model → ℕ
slot i m = lowest most 0 (λ p. named i (m.device p))

-- the device with an id
unfoldable pub its : Id → Model → Device
its i m = m.device (slot i m)

-- a pair in a device's assigned product
unfoldable pub holds : Device → ℕ → ℕ → Bool
holds v a d = v.present && (v.adapters a && v.domains d)

-- a pair in the assigned product of a device at another slot than p
unfoldable pub another_holds : Model → ℕ → ℕ → ℕ → Bool
another_holds m p a d = some_below most (λ j. not (eqb j p) && holds (m.device j) a d)

-- a pair in some device's assigned product
unfoldable pub some_holds : Model → ℕ → ℕ → Bool
some_holds m a d = some_below most (λ j. holds (m.device j) a d)

-- a reserved pair
unfoldable pub reserved : Model → ℕ → ℕ → Bool
reserved m a d = m.apmask a && m.aqmask d

-- the numbers of a kind that are assigned to a device
unfoldable pub has : Kind → Device → Bits
has Adapter v = v.adapters
has Domain v = v.domains
has Control v = v.controls

-- the pairs that a number would add to a device's product
unfoldable pub new : Kind → ℕ → Device → ℕ → ℕ → Bool
new Adapter n v a d = not (v.adapters n) && (eqb a n && v.domains d)
new Domain n v a d = not (v.domains n) && (v.adapters a && eqb d n)
new Control n v a d = false

-- the highest number of a kind
unfoldable pub highest : Kind → Model → ℕ
highest Adapter m = m.highest_adapter
highest Domain m = m.highest_domain
highest Control m = m.highest_domain

-- a bit above a limit
unfoldable pub bit_above : ℕ → Bits → Bool
bit_above limit b = some_below 256 (λ i. b i && ltb limit i)

-- ---- effects

-- a device at a slot
unfoldable pub put : ℕ → Device → Model → Model
put p v m =
    record {
      highest_adapter = m.highest_adapter;
      highest_domain = m.highest_domain;
      apmask = m.apmask;
      aqmask = m.aqmask;
      adapters = m.adapters;
      domains = m.domains;
      controls = m.controls;
      types = m.types;
      device = λ j. cond (eqb j p) v (m.device j);
    }

-- a device with nothing assigned, not open; without an id it is an empty slot
unfoldable pub bare : Bool → Id → Device
bare here i =
    record { present = here; is_open = false; id = i; adapters = λ n. false; domains = λ n. false; controls = λ n. false }

-- no id
unfoldable pub nobody : Id
nobody = record { hi = 0; lo = 0 }

-- a device with its open mark
unfoldable pub marked : Bool → Device → Device
marked o v =
    record { present = v.present; is_open = o; id = v.id; adapters = v.adapters; domains = v.domains; controls = v.controls }

-- a set with bit n set or cleared
unfoldable pub turned : Bool → ℕ → Bits → Bits
turned on n b i = cond (eqb i n) on (b i)

-- a device with bit n of a kind set or cleared
unfoldable pub turn : Bool → Kind → ℕ → Device → Device
turn on Adapter n v =
    record {
      present = v.present;
      is_open = v.is_open;
      id = v.id;
      adapters = turned on n v.adapters;
      domains = v.domains;
      controls = v.controls;
    }
turn on Domain n v =
    record {
      present = v.present;
      is_open = v.is_open;
      id = v.id;
      adapters = v.adapters;
      domains = turned on n v.domains;
      controls = v.controls;
    }
turn on Control n v =
    record {
      present = v.present;
      is_open = v.is_open;
      id = v.id;
      adapters = v.adapters;
      domains = v.domains;
      controls = turned on n v.controls;
    }

-- other host masks
unfoldable pub masked : Bits → Bits → Model → Model
masked ap aq m =
    record {
      highest_adapter = m.highest_adapter;
      highest_domain = m.highest_domain;
      apmask = ap;
      aqmask = aq;
      adapters = m.adapters;
      domains = m.domains;
      controls = m.controls;
      types = m.types;
      device = m.device;
    }

-- another configuration; a type given for an adapter that is not configured is stored as 0
unfoldable pub given : Configuration → Model → Model
given c m =
    record {
      highest_adapter = m.highest_adapter;
      highest_domain = m.highest_domain;
      apmask = m.apmask;
      aqmask = m.aqmask;
      adapters = bits c.adapters;
      domains = bits c.domains;
      controls = bits c.controls;
      types = λ a. cond (bits c.adapters a) (get_or c.types a 0) 0;
      device = m.device;
    }

-- ---- checks and answers

-- a check: where it holds, the command is refused with this errno
pub record Check : Type 0 where
  pub when : Bool
  pub errno : Errno

-- an answer, 0 where there is no refusal, and what the model keeps then
pub record Reply : Type 0 where
  pub errno : ℕ
  pub next : Model

-- the first check that holds refuses, and a refused command changes nothing
unfoldable pub judged : List Check → Model → Model → Reply
judged [] m done = record { errno = 0; next = done }
judged (c ∷ cs) m done = cond c.when (record { errno = number_of c.errno; next = m }) (judged cs m done)

-- bad text is refused before any check
unfoldable pub with_text : {A : Type 0} → Outcome A → Model → (A → Reply) → Reply
with_text (granted a) m next = next a
with_text (refused e) m next = record { errno = number_of e; next = m }

-- the table of commands (RULES.md, "Commands"): the checks in their order, and the effect
unfoldable pub reply : Command → Model → Reply
reply (create i) m =
    judged (record { when = known i m; errno = Eexist } ∷ record { when = not (room m); errno = Enospc } ∷ []) m
    (put (lowest most 0 (λ p. not (m.device p).present)) (bare true i) m)
reply (remove i) m =
    judged (record { when = not (known i m); errno = Enoent } ∷ record { when = (its i m).is_open; errno = Ebusy } ∷ []) m
    (put (slot i m) (bare false nobody) m)
reply (open_it i) m =
    judged (record { when = not (known i m); errno = Enoent } ∷ record { when = (its i m).is_open; errno = Ebusy } ∷ []) m
    (put (slot i m) (marked true (its i m)) m)
reply (close_it i) m =
    judged (record { when = not (known i m); errno = Enoent } ∷ record { when = not (its i m).is_open; errno = Einval } ∷ []) m
    (put (slot i m) (marked false (its i m)) m)
reply (assign k i text) m =
    with_text (number_text text) m
    (λ n. judged
    (record { when = not (known i m); errno = Enoent }
    ∷ record { when = ltb (highest k m) n; errno = Enodev }
    ∷ record { when = some_pair (λ a d. new k n (its i m) a d && reserved m a d); errno = Eaddrnotavail }
    ∷ record { when = some_pair (λ a d. new k n (its i m) a d && another_holds m (slot i m) a d); errno = Eaddrinuse }
    ∷ [])
    m
    (put (slot i m) (turn true k n (its i m)) m))
reply (unassign k i text) m =
    with_text (number_text text) m
    (λ n. judged
    (record { when = not (known i m); errno = Enoent } ∷ record { when = ltb (highest k m) n; errno = Enodev } ∷ []) m
    (put (slot i m) (turn false k n (its i m)) m))
reply (set_apmask text) m =
    with_text (mask_text text m.apmask) m
    (λ b. judged (record { when = some_pair (λ a d. (b a && m.aqmask d) && some_holds m a d); errno = Eaddrinuse } ∷ []) m
    (masked b m.aqmask m))
reply (set_aqmask text) m =
    with_text (mask_text text m.aqmask) m
    (λ b. judged (record { when = some_pair (λ a d. (m.apmask a && b d) && some_holds m a d); errno = Eaddrinuse } ∷ []) m
    (masked m.apmask b m))
reply (configure c) m =
    judged
    (record { when = bit_above m.highest_adapter (bits c.adapters); errno = Enodev }
    ∷ record { when = bit_above m.highest_domain (bits c.domains); errno = Enodev }
    ∷ record { when = bit_above m.highest_domain (bits c.controls); errno = Enodev }
    ∷ [])
    m (given c m)

-- the model of a fresh record
unfoldable pub start : ℕ → ℕ → Model
start a d =
    record {
      highest_adapter = a;
      highest_domain = d;
      apmask = λ i. ltb i 256;
      aqmask = λ i. ltb i 256;
      adapters = λ i. false;
      domains = λ i. false;
      controls = λ i. false;
      types = λ i. 0;
      device = λ p. bare false nobody;
    }

-- what the model answers to commands
unfoldable pub replies : List Command → Model → List ℕ
replies [] m = []
replies (c ∷ cs) m = (reply c m).errno ∷ replies cs (reply c m).next

-- what the model keeps after commands
unfoldable pub kept : List Command → Model → Model
kept [] m = m
kept (c ∷ cs) m = kept cs (reply c m).next

-- ---- what follows from what the model keeps

-- the driver of a pair: its target
unfoldable pub driver : Model → ℕ → ℕ → Driver
driver m a d =
    cond (m.adapters a && m.domains d) (cond (reserved m a d) Host (cond (leb 10 (m.types a)) Passthrough Unbound)) Unbound

-- whether a driver passes queues through
unfoldable pub passes : Driver → Bool
passes Unbound = false
passes Host = false
passes Passthrough = true

-- a guest's domains
unfoldable pub guest_domains : Model → Device → Bits
guest_domains m v d = v.domains d && m.domains d

-- a guest's adapters: no domain that is kept lacks its queue
unfoldable pub guest_adapters : Model → Device → Bits
guest_adapters m v a =
    v.adapters a && m.adapters a && not (some_below 256 (λ d. guest_domains m v d && not (passes (driver m a d))))

-- a guest's control domains: assigned as control or usage domain, and configured as control or usage domain
unfoldable pub guest_controls : Model → Device → Bits
guest_controls m v d = (v.controls d || v.domains d) && (m.controls d || m.domains d)
