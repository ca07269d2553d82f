use Rattle.std.proofs.{Common.{rules, ◌≡◌, refl, ap, Some, None, IsTrue, bytes_eq}, lemmas.Map.Made.lookup-map_values}
use Rattle.indexmap.specs.IndexMap.{get}
use Rattle.sfv_tree.specs.Builders.{member_state, member_step, dictionary_state, dictionary_takes_memory, ended}
use Rattle.sfv_tree.specs.{Events.event_of, Trees.member_tree, declared.visitor.member.Member.Member}
use Rattle.sfv_tree.proofs.{Entered.dictionary_tree-insert, Members.or_true}
use Rattle.sfv_tree.proofs.visitor.dictionary_builder.DictionaryBuilder.step.Goals as goal

pub returns-in_ok-insert-clause-state : goal.returns-in_ok-insert-clause-state
returns-in_ok-insert-clause-state c =
    let held : c.args.self.now.member ≡ Some (c.in-Some.field-0-0, c.in-Some.member) = search rules in
    let whole = c.in_ok-step.ensures.entry c.if-branch.true in
    let state : ended (member_tree whole.0) ≡ member_step (member_state c.in-Some.member) (event_of c.args.event) =
    rw (c.if-branch.true, whole.1) at c.in_ok-step.ensures.state in
    let entries = c.in_ok-insert.ensures.entries c.in-Some.field-0-0 whole.0
    (ap (λ (p : Member). Some (c.in-Some.field-0-0, p)) whole.1) in
    rw (c.insert.ensures.member, entries, held, ← state, dictionary_tree-insert) refl

pub returns-in_err-insert-clause-out_of_memory : goal.returns-in_err-insert-clause-out_of_memory
returns-in_err-insert-clause-out_of_memory c =
    let held : c.args.self.now.member ≡ Some (c.in-Some.field-0-0, c.in-Some.member) = search rules in
    let whole = c.in_ok-step.ensures.entry c.if-branch.true in
    let state : ended (member_tree whole.0) ≡ member_step (member_state c.in-Some.member) (event_of c.args.event) =
    rw (c.if-branch.true, whole.1) at c.in_ok-step.ensures.state in
    let absent : get bytes_eq c.args.self.now.dictionary c.in-Some.field-0-0 ≡ None = c.in_err-insert.ensures.absent in
    let takes : IsTrue (dictionary_takes_memory (dictionary_state c.args.self.now) (event_of c.args.event)) =
    rw (held, ← state, lookup-map_values member_tree, absent) (or_true _) in
    search rules
