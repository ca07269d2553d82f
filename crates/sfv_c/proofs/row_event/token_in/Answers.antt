use Rattle.std.proofs.Common.{◌≡◌, IsTrue, Option, MatchOption, sym, subst}
use Rattle.sfv.specs.{Classes.is_token, Field.text_of as token_text, InvalidTexts.IsInvalidToken, TokenText.TokenRef}
use Rattle.sfv_c.proofs.Invalid.{made, not_token}
use Rattle.sfv_c.proofs.row_event.token_in.Goals as goal

pub returns : goal.returns
returns c =
    let P : Type 0 = IsTrue (is_token c.args.bytes.now) in
    let Q : TokenRef → Type 0 = λ x. (token_text x ≡ c.args.bytes.now) × IsTrue (is_token c.args.bytes.now) in
    subst (λ (o : Option TokenRef). MatchOption o (P → ⊥) Q) (sym c.ok.ensures.value)
    (made P Q (IsInvalidToken c.args.bytes.now) c.from_bytes.result c.from_bytes.ensures (not_token c.args.bytes.now))
