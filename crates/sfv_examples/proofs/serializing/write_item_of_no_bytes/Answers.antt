use Rattle.std.proofs.Common.{◌++◌, ◌∙◌, refl, ap, codes, string_bytes}
use Rattle.sfv.specs.Written.{LacksRoom}
use Rattle.sfv_examples.proofs.Exits.{at_exit}
use Rattle.sfv.specs.Base64 as base64
use Rattle.sfv_examples.proofs.serializing.write_item_of_no_bytes.Goals as goal

pub returns-clause-text : goal.returns-clause-text
unfolding base64.base64_text
returns-clause-text c = c.in_ok-write_item.ensures.written
    ∙ ap (λ t. string_bytes c.args.text.now ++ t) (rw c.key_ref.ensures refl)

pub returns-in_err-write_item-clause-room : goal.returns-in_err-write_item-clause-room
unfolding base64.base64_text
returns-in_err-write_item-clause-room c =
    at_exit c.in_err-write_item.field-0.0 c.from_residual.result c.from_residual.ensures.1 _
    (λ _. LacksRoom c.args.text.now (codes "?1;x=::")) (rw c.key_ref.ensures at c.in_err-write_item.ensures.room)
