-- What a `?` hands on.
-- Assumes nothing.
use Rattle.std.proofs.Common.{◌≡◌, Result}
use Rattle.std.proofs.lemmas.Result.{err_from_is_err_and}
use Rattle.std.specs.Result.{IsErrAnd}
use Rattle.errno.specs.declared.Errno.{Errno}
use Rattle.errno.specs.Outcome.{outcome, refused}

-- the refusal that it was at
pub passed : {A : Type 0} (r : Result A Errno) (e : Errno) → IsErrAnd r (λ y. y ≡ e) → outcome r ≡ refused e
unfolding outcome
passed r e h = let p = err_from_is_err_and r h in rw (p.1, p.2)
