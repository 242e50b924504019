-- `next` meets its contract.
use native.Mathlib.Omega.{arith}
use Rattle.linereader.proofs.Laws.{from_past, word_taken}
use Rattle.linereader.proofs.LineReader.next.Goals as goal

pub returns-then-self-clause-word : goal.returns-then-self-clause-word
returns-then-self-clause-word c = (from_past _ _ (omega arith), from_past _ _ (omega arith))

pub returns-clause-word : goal.returns-clause-word
returns-clause-word c = word_taken _ _ _ _ (omega arith) c.word-word.ensures (omega arith)
