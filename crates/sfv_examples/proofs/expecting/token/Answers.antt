use Rattle.sfv.specs.CheckedTexts.{text_of as token_text}
use Rattle.sfv_examples.proofs.Uses.{token_result}
use Rattle.sfv_examples.proofs.expecting.token.Goals as goal

pub returns-clause-of_an_item : goal.returns-clause-of_an_item
returns-clause-of_an_item c raw accepted =
    token_result raw.bare _ c.expect.result (c.expect.ensures.of_an_item raw accepted)

pub returns-clause-of_another_kind : goal.returns-clause-of_another_kind
returns-clause-of_another_kind c value begins none =
    token_result value _ c.expect.result (c.expect.ensures.of_another_kind value begins (λ name. none (token_text name)))
