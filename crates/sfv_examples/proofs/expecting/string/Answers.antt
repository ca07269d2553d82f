use Rattle.std.proofs.Common.{◌≡◌}
use Rattle.sfv.specs.{BareItems.{read_text, input_value}, ProvidedVisitors.IsWrongType, Types.{Rfc9651, item_field}}
use Rattle.sfv.proofs.Callers.{made_item, made_syntax, made_first, made_lent, expect_read, expect_only}
use Rattle.sfv_examples.proofs.Uses.{lent_string, read_failed}
use Rattle.sfv.specs.Types.bare_items as bare_items
use Rattle.sfv.specs.Types.bare_item_types as kinds
use Rattle.sfv.specs.Values as values
use Rattle.sfv_examples.proofs.expecting.string.Goals as goal

pub returns-clause-read : goal.returns-clause-read
returns-clause-read c = lent_string c.args.input.now c.parse_item.result
    (expect_read (λ text. values.string (read_text text)) (λ text item. item ≡ bare_items.String text) Rfc9651
    c.args.input.now c.parse_item.result (made_lent _ (rw c.new.ensures at c.parse_item.ensures)))

pub returns-clause-rejected : goal.returns-clause-rejected
returns-clause-rejected c = read_failed _ _ _ item_field c.args.input.now (λ e h. h.2.0)
    (λ f h. expect_only (λ text. values.string (read_text text)) (λ text item. item ≡ bare_items.String text)
    (λ item. IsWrongType kinds.String (input_value item)) Rfc9651 c.args.input.now f h) c.parse_item.result
    (made_syntax _ (made_item _ (rw c.new.ensures at c.parse_item.ensures)))
    (made_first _ (rw c.new.ensures at c.parse_item.ensures))
