-- `errno_name` meets its contract: the name of the case is written.
use Rattle.names.proofs.Laws.{named, name_short}
use Rattle.names.proofs.errno_name.Goals as goal

pub returns-in-Some : goal.returns-in-Some
returns-in-Some c = named c.in-Some.e c.in-Some.ensures (name_short c.in-Some.e) c.name.ensures c.write.ensures
