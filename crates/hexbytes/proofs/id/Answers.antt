-- `id` meets its contract: the id of the bytes, or their refusal.
use Rattle.std.proofs.lemmas.Result.{err_from_is_err_and}
use Rattle.errno.specs.Outcome.{outcome}
use Rattle.hexbytes.proofs.Laws.{id_good, id_bad}
use Rattle.hexbytes.proofs.id.Goals as goal

pub returns-in_err-bytes : goal.returns-in_err-bytes
unfolding outcome
returns-in_err-bytes c = let p = err_from_is_err_and c.from_residual.result c.from_residual.ensures.1 in rw (p.1, p.2) (id_bad _ _ c.in_err-bytes.ensures)

pub returns : goal.returns
unfolding outcome
returns c = id_good _ c.id_of.ensures c.in_ok-bytes.ensures
