-- Reserved queues, targets, moves, the moves remaining, and guest masks (RULES.md, sections of these names).
-- Assumes nothing.
use Rattle.std.specs.Prelude.{ℕ, zero, suc, ◌+◌, ◌*◌, ◌<◌, min, Bool, true, false, cond, not, ◌&&◌, ◌≡◌, ◌↔◌, eqb, leb}
use Rattle.mask.specs.Bits.{Bits, some_below, both, either}
use Rattle.rules.specs.declared.Driver.{Driver}
use Rattle.rules.specs.declared.Driver.TheVariants.{Unbound, Host, Passthrough}
use Rattle.rules.specs.declared.Matrix.{Matrix}
use Rattle.rules.specs.declared.Matrix.TheVariants.{Assigned, Guest}
use Rattle.rules.specs.declared.Moved.{Moved}
use Rattle.rules.specs.declared.Moved.TheVariants.{Idle, Released, BoundHost, BoundPassthrough}
use Rattle.rules.specs.State.{State, HostMasks, Config, Device, in_product, apid, queues}

-- reserved for the host: apmask has its adapter, and aqmask its domain too
unfoldable pub reserved : HostMasks → Bits
reserved h = in_product h.apmask h.aqmask

-- its adapter and its usage domain are configured
unfoldable pub configured : Config → Bits
configured c = in_product c.adapters c.domains

-- the driver that a queue should have
unfoldable pub target_of : HostMasks → Config → ℕ → Driver
target_of h c q = cond (configured c q) (cond (reserved h q) Host (cond (leb 10 (c.types (apid q))) Passthrough Unbound)) Unbound

-- the same of a state
abbrev pub target : State → ℕ → Driver
target s = target_of s.host s.config

-- what a move does, by the queue's driver and its target
abbrev pub moved : Driver → Driver → Moved
moved Unbound Unbound = Idle
moved Unbound Host = BoundHost
moved Unbound Passthrough = BoundPassthrough
moved Host Unbound = Released
moved Host Host = Idle
moved Host Passthrough = Released
moved Passthrough Unbound = Released
moved Passthrough Host = Released
moved Passthrough Passthrough = Idle

-- a move's answer as a number
abbrev pub moved_number : Moved → ℕ
moved_number Idle = 0
moved_number Released = 1
moved_number BoundHost = 2
moved_number BoundPassthrough = 3

-- the driver after a move that found the driver d
unfoldable pub after : Driver → Moved → Driver
after d Idle = d
after d Released = Unbound
after d BoundHost = Host
after d BoundPassthrough = Passthrough

-- the moves that a queue still needs, by its driver and its target
abbrev pub due : Driver → Driver → ℕ
due Unbound Unbound = 0
due Unbound Host = 1
due Unbound Passthrough = 1
due Host Unbound = 1
due Host Host = 0
due Host Passthrough = 2
due Passthrough Unbound = 1
due Passthrough Host = 2
due Passthrough Passthrough = 0

-- f 0 + .. + f (n - 1)
unfoldable pub sum_below : ℕ → (ℕ → ℕ) → ℕ
sum_below zero f = 0
sum_below (suc n) f = sum_below n f + f n

-- the sum of the n terms from k on
unfoldable pub sum_from : ℕ → ℕ → (ℕ → ℕ) → ℕ
sum_from zero k f = 0
sum_from (suc n) k f = f k + sum_from n (suc k) f

-- the moves that queue q still needs
unfoldable pub due_at : State → ℕ → ℕ
due_at s q = due (s.driver q) (target s q)

-- the moves remaining
unfoldable pub remaining : State → ℕ
remaining s = sum_below queues (due_at s)

-- the drivers with queue n given another
unfoldable pub rebound : ℕ → Driver → (ℕ → Driver) → ℕ → Driver
rebound n d ds q = cond (eqb q n) d (ds q)

-- what a move of queue q answers
unfoldable pub move_answer : ℕ → State → Moved
move_answer q s = moved (s.driver q) (target s q)

-- no move is due: a move of each of the queues would answer idle
unfoldable pub Settled : State → Type 0
Settled s = (q : ℕ) → q < queues → move_answer q s ≡ Idle

-- r is the number of moves remaining, and it is 0 exactly when no move is due
pub record Remaining (s : State) (r : ℕ) : Type 0 where
  pub number : r ≡ remaining s
  pub none : (r ≡ 0) ↔ Settled s

-- the state after a move of queue q
unfoldable pub move : ℕ → State → State
move q s =
    record {
      limits = s.limits;
      host = s.host;
      config = s.config;
      device = s.device;
      driver = rebound q (after (s.driver q) (move_answer q s)) s.driver;
    }

-- the state after n moves of queue q, one after the other
unfoldable pub moves : ℕ → ℕ → State → State
moves zero q s = s
moves (suc n) q s = moves n q (move q s)

-- a larger budget is taken as this one
abbrev pub most_moves : ℕ
most_moves = 131072

-- the moves that a sweep makes
unfoldable pub moves_used : ℕ → State → ℕ
moves_used b s = min (min b most_moves) (remaining s)

-- bound to passthrough
unfoldable pub passed : Driver → Bool
passed Unbound = false
passed Host = false
passed Passthrough = true

-- guest masks: the domains
unfoldable pub guest_domains : State → Device → Bits
guest_domains s v = both v.domains s.config.domains

-- guest masks: the adapters; one domain whose queue is not passed through drops the adapter
unfoldable pub guest_adapters : State → Device → Bits
guest_adapters s v a =
    v.adapters a && s.config.adapters a
    && not (some_below 256 (λ d. guest_domains s v d && not (passed (s.driver (a * 256 + d)))))

-- guest masks: the control domains, assigned as control or usage domain and configured as control or usage domain
unfoldable pub guest_controls : State → Device → Bits
guest_controls s v = both (either v.controls v.domains) (either s.config.controls s.config.domains)

-- what follows for the control mask m of a guest
pub record ControlRule (s : State) (v : Device) (m : Bits) : Type 0 where
  -- every usage domain of the guest is one of its control domains
  pub usage : (d : ℕ) → guest_domains s v d ≡ true → m d ≡ true
  -- a domain that is assigned neither as control domain nor as usage domain is not one of them, whatever is configured
  pub unassigned : (d : ℕ) → v.controls d ≡ false → v.domains d ≡ false → m d ≡ false
  -- a domain that is configured neither as control domain nor as usage domain is not one of them, whatever is assigned
  pub unconfigured : (d : ℕ) → s.config.controls d ≡ false → s.config.domains d ≡ false → m d ≡ false

-- the adapters of a device's matrix
unfoldable pub matrix_adapters : Matrix → State → Device → Bits
matrix_adapters Assigned s v = v.adapters
matrix_adapters Guest s v = guest_adapters s v

-- the domains of a device's matrix
unfoldable pub matrix_domains : Matrix → State → Device → Bits
matrix_domains Assigned s v = v.domains
matrix_domains Guest s v = guest_domains s v

-- the control domains of a device's matrix
unfoldable pub matrix_controls : Matrix → State → Device → Bits
matrix_controls Assigned s v = v.controls
matrix_controls Guest s v = guest_controls s v

-- a guest can use a queue
unfoldable pub usable : State → Device → Bits
usable s v q = v.is_open && in_product (guest_adapters s v) (guest_domains s v) q
