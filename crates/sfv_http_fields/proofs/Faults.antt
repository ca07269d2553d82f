-- The errors of a field of a request.
use Rattle.std.proofs.Common.{◌≡◌, ℕ, List, [], Result, Ok, Err, refl, ◌≢◌, IfErr, OnErr, IsErrAnd}
use Rattle.std.proofs.lemmas.Result.{err_from_is_err_and}
use Rattle.sfv.specs.Errors.{out_of_memory}
use Rattle.sfv_http_fields.specs.Requests.{IsRequestField, IsFieldFault}
use Rattle.sfv_http_fields.specs.declared.request.fault.RequestFault.{RequestFault}
use Rattle.sfv_http_fields.specs.declared.request.fault.RequestFault.TheVariants as faults

-- memory ran out for a field with this text
pub lines_fault : {T : Type 0} (name : List ℕ) (room : ℕ) (input text : List ℕ) (r : Result T RequestFault)
    → IsErrAnd r (λ fault. fault ≡ faults.Field out_of_memory) → IsRequestField name input text → text ≢ []
    → IfErr r (IsFieldFault name room input)
lines_fault name room input text r exit found more =
    let p = err_from_is_err_and r exit in rw (p.1, p.2) (refl, text, found, more)

-- what holds of every result, holds of an error
pub of_any : {T E P : Type 0} (r : Result T E) → P → OnErr r P
of_any (Ok x) h = tt
of_any (Err e) h = h
