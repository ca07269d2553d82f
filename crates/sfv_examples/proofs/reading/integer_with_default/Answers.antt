use Rattle.std.proofs.Common.{None, string_bytes, sym, ap}
use Rattle.sfv.specs.{BareItems.bare_value, NumberValues.integer_of, Statements.IsParsedAs, Trees.item_tree}
use Rattle.sfv.{specs.Types.{item_field, Rfc9651}, proofs.Callers.integer_part}
use Rattle.sfv_examples.{specs.Uses.integer_or, proofs.Uses.integer_or-other}
use Rattle.sfv_examples.proofs.reading.integer_with_default.Goals as goal

pub returns-in_default-clause-integer : goal.returns-in_default-clause-integer
returns-in_default-clause-integer c =
    let read : IsParsedAs Rfc9651 item_field c.args.input.now (item_tree c.in_ok-item.item) =
    rw c.new.ensures at c.in_ok-item.ensures.read in
    let other = integer_part (λ s. s) (λ b. b.items) (λ t. t) string_bytes c.in_ok-item.item.bare_item None
    c.in_default.ensures in
    (item_tree c.in_ok-item.item, read, sym (integer_or-other (integer_of c.args.default) _ other))

pub returns-clause-integer : goal.returns-clause-integer
returns-clause-integer c =
    let read : IsParsedAs Rfc9651 item_field c.args.input.now (item_tree c.in_ok-item.item) =
    rw c.new.ensures at c.in_ok-item.ensures.read in
    let there = ap bare_value c.in-Some.ensures in
    (item_tree c.in_ok-item.item, read, sym (ap (integer_or (integer_of c.args.default)) there))
