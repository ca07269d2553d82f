use Rattle.std.proofs.lemmas.Result.{IfOk-weaker}
use Rattle.sfv.specs.{HashSeeds.library_seed, Types.{item_field, Rfc9651}}
use Rattle.sfv.proofs.Callers.{made_item, made_visited, made_syntax, made_visitor, item_seeded, item_built}
use Rattle.sfv.proofs.Callers.{item_built_fails}
use Rattle.sfv_examples.proofs.Uses.{read_failed}
use Rattle.sfv_examples.proofs.expecting.item.Goals as goal

pub returns-clause-read : goal.returns-clause-read
returns-clause-read c = IfOk-weaker c.parse_item.result _ _
    (λ value h. item_built Rfc9651 c.args.input.now h.0 value h.1.0 h.2)
    (made_visited _ (made_item _ (rw c.new.ensures at c.parse_item.ensures)))

pub returns-clause-seed : goal.returns-clause-seed
returns-clause-seed c = IfOk-weaker c.parse_item.result _ _
    (λ value h. item_seeded Rfc9651 c.args.input.now h.0 value library_seed h.1.1 h.2)
    (made_visited _ (made_item _ (rw c.new.ensures at c.parse_item.ensures)))

pub returns-clause-rejected : goal.returns-clause-rejected
returns-clause-rejected c = read_failed _ _ _ item_field c.args.input.now (λ e h. h.2.0)
    (λ f h. item_built_fails Rfc9651 c.args.input.now h.0 f h.1.0 h.2) c.parse_item.result
    (made_syntax _ (made_item _ (rw c.new.ensures at c.parse_item.ensures))) (made_visitor _ (made_item _ (rw c.new.ensures at c.parse_item.ensures)))
