use Rattle.std.proofs.Common.{◌≡◌, IsTrue, Option, MatchOption, sym, subst}
use Rattle.sfv.specs.{CheckedTexts.text_of as key_text, Classes.is_key, InvalidTexts.IsInvalidKey, KeyText.KeyRef}
use Rattle.sfv_c.proofs.Invalid.{made, not_key}
use Rattle.sfv_c.proofs.row_event.key_in.Goals as goal

pub returns : goal.returns
returns c =
    let P : Type 0 = IsTrue (is_key c.args.bytes.now) in
    let Q : KeyRef → Type 0 = λ x. (key_text x ≡ c.args.bytes.now) × IsTrue (is_key c.args.bytes.now) in
    subst (λ (o : Option KeyRef). MatchOption o (P → ⊥) Q) (sym c.ok.ensures.value)
    (made P Q (IsInvalidKey c.args.bytes.now) c.from_bytes.result c.from_bytes.ensures (not_key c.args.bytes.now))
