use Rattle.std.{proofs.Common.{◌≡◌, IsTrue, Option, MatchOption, sym, subst}, specs.List.list_all}
use Rattle.sfv.specs.CheckedTexts.{text_of as string_text}
use Rattle.sfv.specs.{Classes.is_string_byte, InvalidTexts.IsInvalidString, StringText.StringRef}
use Rattle.sfv_c.proofs.Invalid.{made, not_string}
use Rattle.sfv_c.proofs.row_event.string_in.Goals as goal

pub returns : goal.returns
returns c =
    let P : Type 0 = IsTrue (list_all is_string_byte c.args.bytes.now) in
    let Q : StringRef → Type 0 = λ x. (string_text x ≡ c.args.bytes.now) × IsTrue (list_all is_string_byte c.args.bytes.now) in
    subst (λ (o : Option StringRef). MatchOption o (P → ⊥) Q) (sym c.ok.ensures.value)
    (made P Q (IsInvalidString c.args.bytes.now) c.from_bytes.result c.from_bytes.ensures (not_string c.args.bytes.now))
