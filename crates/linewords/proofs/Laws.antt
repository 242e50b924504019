-- What is read is handed on: text that is good, and text that is bad.
-- Assumes nothing.
use mathlib.Core.Path.{◌≡◌, ap}
use Rattle.std.specs.Prelude.{Result}
use Rattle.std.specs.Result.{IsErrAnd}
use Rattle.std.proofs.lemmas.Result.{err_from_is_err_and}
use Rattle.errno.specs.Outcome.{Outcome, granted, refused}
use Rattle.errno.specs.declared.Errno.{Errno}
use Rattle.configtext.specs.ConfigText.{when_good}
use Rattle.linewords.specs.declared.Request.{Request}
use Rattle.linewords.specs.Asked.{asked}

-- ---- what comes of good text

-- what a `?` hands on is the refusal that it was at
pub asked_refused : (r : Result Request Errno) (e : Errno) → IsErrAnd r (λ y. y ≡ e) → asked r ≡ refused e
unfolding asked
asked_refused r e h = let p = err_from_is_err_and r h in rw (p.1, p.2)

module _ {A B : Type 0} (f : A → Outcome B) {o : Outcome A} where
  pub when_good_lem : {x : A} → granted x ≡ o → f x ≡ when_good o f
  unfolding when_good
  when_good_lem e = ap (λ (p : Outcome A). when_good p f) e

  pub when_bad : {e : Errno} → refused e ≡ o → refused e ≡ when_good o f
  unfolding when_good
  when_bad e = ap (λ (p : Outcome A). when_good p f) e
