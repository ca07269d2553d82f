use Rattle.std.proofs.Common.{◌≡◌}
use Rattle.std.{specs.declared.alloc.Global.Global, specs.declared.vec.Vec.Vec, proofs.lemmas.Result.IfOk-weaker}
use Rattle.sfv.specs.{Builders.{list_state, list_step, ListAdds}, Seeds.ListHasSeed}
use Rattle.sfv.specs.{Statements.IsParsedAs, Trees.list_tree, Types.{list_field, Rfc9651, ListBuilder, ListEntry}}
use Rattle.sfv.proofs.Callers.{list_in_lines, list_after, list_seeded}
use Rattle.sfv_examples.proofs.Uses.{second_fails}
use Rattle.sfv_examples.proofs.reading.list_of_lines.Goals as goal

pub returns-clause-joined : goal.returns-clause-joined
returns-clause-joined c =
    let held = list_tree c.in_ok-held.held.items in
    let second = rw (c.new-2.ensures) at c.parse_list_with_visitor.ensures.visited in
    let past = list_after Rfc9651 c.args.second.now held c.new-builder.result c.parse_list_with_visitor.result
    c.new-builder.ensures.state second in
    IfOk-weaker c.parse_list_with_visitor.result _ _ (λ list h.
    (held, h.0, rw (c.with_hash_seed-parser.ensures, c.new.ensures) at c.in_ok-held.ensures.read, h.1, h.2)) past

pub returns-clause-one_line : goal.returns-clause-one_line
returns-clause-one_line c = IfOk-weaker c.parse_list_with_visitor.result _ _ (λ list h a b first m second n.
    rw h.4 (list_in_lines Rfc9651 c.args.first.now c.args.second.now h.0 h.1 a b h.2 h.3 first m second n))
    (returns-clause-joined c)

pub returns-clause-seed : goal.returns-clause-seed
returns-clause-seed c =
    let second = rw (c.new-2.ensures) at c.parse_list_with_visitor.ensures.visited in
    let first : ListHasSeed c.args.seed c.in_ok-held.held.items =
    rw c.with_hash_seed-parser.ensures at c.in_ok-held.ensures.seed in
    let same = rw c.with_hash_seed-parser.ensures at c.hash_seed.ensures in
    IfOk-weaker c.parse_list_with_visitor.result _ _ (λ list h. list_seeded Rfc9651 c.args.second.now c.new-builder.result list
    c.args.seed (rw c.new-builder.ensures.list first) (rw same at c.new-builder.ensures.seed) h) second

pub returns-clause-rejected : goal.returns-clause-rejected
returns-clause-rejected c =
    let read : IsParsedAs Rfc9651 list_field c.args.first.now (list_tree c.in_ok-held.held.items) =
    rw (c.with_hash_seed-parser.ensures, c.new.ensures) at c.in_ok-held.ensures.read in
    second_fails list_field (λ (s : ListBuilder) e after. (list_state after ≡ list_step (list_state s) e)
    × ListAdds s after) (λ s (list : Vec ListEntry Global). list ≡ s.list)
    c.args.first.now c.args.second.now c.new-builder.result c.parse_list_with_visitor.result
    (read.raw, read.accepted) (rw c.new-2.ensures at c.parse_list_with_visitor.ensures.syntax)
