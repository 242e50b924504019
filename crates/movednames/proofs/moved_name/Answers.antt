-- `moved_name` meets its contract: the word of the case is written.
use Rattle.names.proofs.Laws.{named}
use Rattle.movednames.proofs.Laws.{word_short}
use Rattle.movednames.proofs.moved_name.Goals as goal

pub returns-in-Some : goal.returns-in-Some
returns-in-Some c = named c.in-Some.moved c.in-Some.ensures (word_short c.in-Some.moved) c.word.ensures c.write.ensures
