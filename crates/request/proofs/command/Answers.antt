-- `command` meets its contract: each command is carried out by its function, which is a call.
use Prim.Native.Nat.{ℕ}
use mathlib.Core.List.{List}
use mathlib.Core.Path.{◌≡◌, refl, ap}
use borrow.Author.Rules.{rules}
use Rattle.model.specs.Steps.{Command, assign, unassign, set_apmask, set_aqmask, rule}
use Rattle.calls.specs.Calls.{effect, creates, removes, opens, closes, assigns, unassigns, sets_apmask, sets_aqmask}
use Rattle.encoding.specs.Encoding.{command}
use Rattle.encoding.specs.Meant.{meant}
use Rattle.request.specs.Requests.{Stepped}
use Rattle.rules.specs.declared.Id.{Id}
use Rattle.rules.specs.declared.Kind.{Kind}
use Rattle.rules.specs.Commands.{Answer, answered}
use Rattle.rules.specs.Commands as Commands
use Rattle.layout.specs.Carried.{CarriedWords, memory}
use Rattle.assign.specs.Numbers.{Assigning, unassigned}
use Rattle.host.specs.Masks.{with_apmask, with_aqmask}
use Rattle.request.proofs.Laws.{as_asked, obeyed}
use Rattle.request.proofs.command.Goals as goal

pub returns-in-Create : goal.returns-in-Create
unfolding meant rule effect
returns-in-Create c =
    obeyed (ap meant c.in-Create.is) (c.create.ensures c.args.drivers.now)
    (creates c.in-Create.id c.create.result (record { words = c.create.ensures; drivers = refl }))

pub returns-in-Remove : goal.returns-in-Remove
unfolding meant rule effect
returns-in-Remove c =
    obeyed (ap meant c.in-Remove.is) (c.remove.ensures c.args.drivers.now)
    (removes c.in-Remove.id c.remove.result (record { words = c.remove.ensures; drivers = refl }))

pub returns-in-Open : goal.returns-in-Open
unfolding meant rule effect
returns-in-Open c =
    obeyed (ap meant c.in-Open.is) (c.«open».ensures c.args.drivers.now)
    (opens c.in-Open.id c.«open».result (record { words = c.«open».ensures; drivers = refl }))

pub returns-in-Close : goal.returns-in-Close
unfolding meant rule effect
returns-in-Close c =
    obeyed (ap meant c.in-Close.is) (c.close.ensures c.args.drivers.now)
    (closes c.in-Close.id c.close.result (record { words = c.close.ensures; drivers = refl }))

-- the calls of these four are searched for, so that another function in a command's place fails as a fact
assigned_as : {x : Command} (k : Kind) (i : Id) (text ws vs qs : List ℕ) (r : Answer) → x ≡ assign k i text → Assigning k i text ws vs r
    → Stepped (command x) (memory ws qs) (memory vs qs) (answered r)
unfolding rule effect
assigned_as k i text ws vs qs r e h = obeyed e (h.rule qs) (assigns k i text r h refl)

unassigned_as : {x : Command} (k : Kind) (i : Id) (text ws vs qs : List ℕ) (r : Answer) → x ≡ unassign k i text
    → CarriedWords (Commands.unassign k i text) (unassigned k i text) ws vs r
    → Stepped (command x) (memory ws qs) (memory vs qs) (answered r)
unfolding rule effect
unassigned_as k i text ws vs qs r e h = obeyed e (h qs) (unassigns k i text r (record { words = h; drivers = refl }))

apmask_as : {x : Command} (text ws vs qs : List ℕ) (r : Answer) → x ≡ set_apmask text
    → CarriedWords (Commands.set_apmask text) (with_apmask text) ws vs r
    → Stepped (command x) (memory ws qs) (memory vs qs) (answered r)
unfolding rule effect
apmask_as text ws vs qs r e h = obeyed e (h qs) (sets_apmask text r (record { words = h; drivers = refl }))

aqmask_as : {x : Command} (text ws vs qs : List ℕ) (r : Answer) → x ≡ set_aqmask text
    → CarriedWords (Commands.set_aqmask text) (with_aqmask text) ws vs r
    → Stepped (command x) (memory ws qs) (memory vs qs) (answered r)
unfolding rule effect
aqmask_as text ws vs qs r e h = obeyed e (h qs) (sets_aqmask text r (record { words = h; drivers = refl }))

pub returns-in-Assign : goal.returns-in-Assign
unfolding meant
returns-in-Assign c =
    let w = c.in-Assign in
    assigned_as w.kind w.id w.text.now c.args.words.now _ c.args.drivers.now _ (ap meant w.is) (search rules)

pub returns-in-Unassign : goal.returns-in-Unassign
unfolding meant
returns-in-Unassign c =
    let w = c.in-Unassign in
    unassigned_as w.kind w.id w.text.now c.args.words.now _ c.args.drivers.now _ (ap meant w.is) (search rules)

pub returns-in-SetApmask : goal.returns-in-SetApmask
unfolding meant
returns-in-SetApmask c =
    let w = c.in-SetApmask in
    apmask_as w.text.now c.args.words.now _ c.args.drivers.now _ (ap meant w.is) (search rules)

pub returns-in-SetAqmask : goal.returns-in-SetAqmask
unfolding meant
returns-in-SetAqmask c =
    let w = c.in-SetAqmask in
    aqmask_as w.text.now c.args.words.now _ c.args.drivers.now _ (ap meant w.is) (search rules)

pub returns-in-Configure : goal.returns-in-Configure
unfolding meant
returns-in-Configure c = as_asked (ap command (ap meant c.in-Configure.is)) c.configured.ensures
