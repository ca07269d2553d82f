use Rattle.std.proofs.Common.{ap}
use Rattle.sfv.specs.{BareItems.bare_value, Statements.IsParsedAs, Trees.item_tree, Types.{item_field, Rfc9651}}
use Rattle.sfv_first_field.proofs.mobile_hint.is_mobile.Goals as goal

pub returns-clause-read : goal.returns-clause-read
returns-clause-read c =
    let read : IsParsedAs Rfc9651 item_field c.args.input.now (item_tree c.in_ok-item.item) =
    rw c.new.ensures at c.in_ok-item.ensures.read in
    (item_tree c.in_ok-item.item, read, ap bare_value c.in-Some.ensures)
