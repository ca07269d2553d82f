use Rattle.std.proofs.{Common.{rules, ◌≡◌, refl, ap, Some}, lemmas.List.map-append}
use Rattle.sfv_tree.specs.{Builders.{member_state, member_step, ended}, Events.event_of, Trees.member_tree}
use Rattle.sfv_tree.proofs.visitor.list_builder.ListBuilder.step.Goals as goal

pub returns-in_ok-append-clause-state : goal.returns-in_ok-append-clause-state
returns-in_ok-append-clause-state c =
    let held : c.args.self.now.member ≡ Some c.in-Some.member = search rules in
    let whole = c.in_ok-step.ensures.entry c.if-branch.true in
    let state : ended (member_tree whole.0) ≡ member_step (member_state c.in-Some.member) (event_of c.args.event) =
    rw (c.if-branch.true, whole.1) at c.in_ok-step.ensures.state in
    rw (c.append.ensures.member, c.in_ok-append.ensures.items whole.0 (ap Some whole.1), held, ← state, map-append) refl
