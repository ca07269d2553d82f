use Rattle.sfv_http_fields.proofs.Faults.{of_any}
use Rattle.sfv_http_fields.proofs.content_digest.reread.Goals as goal

-- there is a text, so there is a digest
pub returns-in_err-again-clause-memory : goal.returns-in_err-again-clause-memory
returns-in_err-again-clause-memory c = of_any c.from_residual-in_err-again.result (λ none.
    let is = c.in-Some.is in let gone = c.in_ok-text.ensures.none.1 none in absurd (cc))
