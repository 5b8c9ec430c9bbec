-- A result whose error `map_err` tells otherwise, as one of another type.
-- Assumes nothing.
use Rattle.std.proofs.Common.{◌≡◌, refl, Result, Ok, Err}
use Rattle.std.specs.Result.{MatchResult, IsErrAnd}

module _ {T E D : Type 0} (mark : E → D) (r : Result T E) (r' : Result T D) (told : MatchResult r (λ x. r' ≡ Ok x) (λ e. IsErrAnd r' (λ d. d ≡ mark e))) where
  -- where the told one is a value, so was the first
  pub told_ok : (x : T) → r' ≡ Ok x → r ≡ Ok x
  told_ok x is = ok r told
    where
      ok : (q : Result T E) → MatchResult q (λ x. r' ≡ Ok x) (λ e. IsErrAnd r' (λ d. d ≡ mark e)) → q ≡ Ok x
      ok (Ok y) h = cc
      ok (Err e) h = absurd (rw is at h)

  -- where it is an error, the first was one, and this is that one told so
  pub told_err : (d : D) → r' ≡ Err d → (e : E) × (r ≡ Err e) × (d ≡ mark e)
  told_err d is = err r told
    where
      err : (q : Result T E) → MatchResult q (λ x. r' ≡ Ok x) (λ e. IsErrAnd r' (λ d. d ≡ mark e)) → (e : E) × (q ≡ Err e) × (d ≡ mark e)
      err (Ok y) h = cc
      err (Err e) h = (e, refl, rw is at h)
