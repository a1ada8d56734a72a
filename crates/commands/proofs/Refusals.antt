-- What `ok_or` and `?` pass on. Assumes nothing.
use Rattle.std.proofs.Common.{◌≡◌, ℕ, refl, Option, Some, None, Result, Err, IsErrAnd, ok_or, arith}
use Rattle.std.proofs.lemmas.Result.{err_from_is_err_and}

-- nothing was found, and so the refusal e is passed on
pub refused : {A B E : Type 0} (r : Option A) (e y : E) (x : Result B E) → Err y ≡ ok_or r e → IsErrAnd x (λ z. z ≡ y) → (r ≡ None) × (x ≡ Err e)
refused None e y x p q =
    let h = err_from_is_err_and x q in
    let z : y ≡ e = cc in
    (refl, rw (h.1, h.2, z))
refused (Some a) e y x p q = absurd (let z : ◌≡◌ {A = ℕ} 0 1 = cc in omega arith)
