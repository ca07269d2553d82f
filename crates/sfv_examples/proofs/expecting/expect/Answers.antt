use Rattle.sfv.specs.Types.{item_field, Rfc9651}
use Rattle.sfv.proofs.Callers.{made_item, made_visited, made_syntax, made_visitor, made_first, expect_answers}
use Rattle.sfv.proofs.Callers.{expect_only}
use Rattle.sfv_examples.proofs.Uses.{expected, expected_first, read_failed}
use Rattle.sfv_examples.proofs.expecting.expect.Goals as goal

pub returns-clause-held : goal.returns-clause-held
returns-clause-held g c = expect_answers g.T.ExpectedItem.holds g.T.ExpectedItem.is_of g.T.ExpectedItem.fails Rfc9651 c.args.input.now
    c.parse_item.result (made_visited _ (made_item _ (rw c.new.ensures at c.parse_item.ensures)))

pub returns-clause-of_an_item : goal.returns-clause-of_an_item
returns-clause-of_an_item g c = expected g.T.ExpectedItem.holds g.T.ExpectedItem.is_of g.T.ExpectedItem.fails c.args.input.now
    c.parse_item.result (made_visited _ (made_item _ (rw c.new.ensures at c.parse_item.ensures)))
    (made_syntax _ (made_item _ (rw c.new.ensures at c.parse_item.ensures))) (made_visitor _ (made_item _ (rw c.new.ensures at c.parse_item.ensures)))

pub returns-clause-of_another_kind : goal.returns-clause-of_another_kind
returns-clause-of_another_kind g c = expected_first g.T.ExpectedItem.holds g.T.ExpectedItem.is_of g.T.ExpectedItem.fails c.args.input.now
    c.parse_item.result (made_visited _ (made_item _ (rw c.new.ensures at c.parse_item.ensures)))
    (made_first _ (rw c.new.ensures at c.parse_item.ensures))

pub returns-clause-rejected : goal.returns-clause-rejected
returns-clause-rejected g c = read_failed _ _ _ item_field c.args.input.now (λ e h. h.2.0)
    (λ f h. expect_only g.T.ExpectedItem.holds g.T.ExpectedItem.is_of g.T.ExpectedItem.fails Rfc9651 c.args.input.now f h) c.parse_item.result
    (made_syntax _ (made_item _ (rw c.new.ensures at c.parse_item.ensures))) (made_first _ (rw c.new.ensures at c.parse_item.ensures))
