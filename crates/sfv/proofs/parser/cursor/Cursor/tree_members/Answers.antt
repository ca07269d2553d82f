use Rattle.std.proofs.Common.{◌≡◌, ◌∙◌, true, ap, not, [], refl, is_some}
use Rattle.sfv_model.specs.Reader.{first}
use Rattle.sfv.specs.parser.{Cursor.{version, rest}, Members.{member_parts, one_member_at, all_members_at}}
use Rattle.sfv.specs.parser.Trees.{ordered_members, with_member}
use Rattle.sfv.proofs.reads.{Delimiters.{after_none, ends_there, at_end}, Errors.left_with}
use Rattle.sfv.proofs.trees.{Errors.{Any, Never}, Fields.{first_member, member_added}}
use Rattle.sfv.proofs.trees.Loops.{as_one, built_first, built_more, built_all, keeps_seed, first_fails, delimiter_fails}
use Rattle.sfv.proofs.{trees.Loops.one_fails, visits.Loops.{shorter, members_loop}}
use Rattle.sfv.proofs.parser.cursor.Cursor.tree_members.Goals as goal

pub returns-then-is_none-clause-tree : goal.returns-then-is_none-clause-tree
returns-then-is_none-clause-tree g c = (
  [],
  after_none (member_parts g.M.Members.keyed) (one_member_at g.M.Members.keyed (version c.args.self.now)) _
      (rw (← c.peek.ensures) (c.is_none.ensures ∙ ap not c.if-is_none.true)),
  c.empty-members.ensures.tree,
  refl,
)

pub returns-then-is_none-clause-end : goal.returns-then-is_none-clause-end
returns-then-is_none-clause-end g c = at_end _ (rw (← c.peek.ensures) (c.is_none.ensures ∙ ap not c.if-is_none.true))

pub returns-in_err-add_member-clause-tree : goal.returns-in_err-add_member-clause-tree
returns-in_err-add_member-clause-tree g c =
    rw (left_with c.from_residual.ensures.1) (first_fails (members_loop g.M.Members.keyed)
    (all_members_at g.M.Members.keyed) c.args.self.now c.args.self.now _ (first_member g.M.Members.keyed
    c.args.self.now (rw (← c.peek.ensures) (c.is_none.ensures ∙ ap not c.if-is_none.false)))
    c.in_err-add_member.ensures.tree)

pub returns-in_err-add_member-clause-some : goal.returns-in_err-add_member-clause-some
returns-in_err-add_member-clause-some g c = rw (left_with c.from_residual.ensures.1)
    (rw (← c.peek.ensures) (c.is_none.ensures ∙ ap not c.if-is_none.false))

pub loop-members-init : goal.loop-members-init
loop-members-init g c =
    let some : is_some (first (rest c.args.self.now)) ≡ true =
    rw (← c.peek.ensures) (c.is_none.ensures ∙ ap not c.if-is_none.false) in
    record {
      built = built_first (members_loop g.M.Members.keyed) (ordered_members g.M.Members.keyed)
          (with_member g.M.Members.keyed) (member_added g.M.Members.keyed) c.args.self.now _ c.args.self.now
          c.add_member.new.cursor _ _ (first_member g.M.Members.keyed c.args.self.now some)
          c.empty-members.ensures.tree c.in_ok-add_member.ensures.tree;
      seed = c.in_ok-add_member.ensures.seed c.empty-members.ensures.seed;
      some = some;
    }

pub returns-in_err-consume_comma-clause-tree : goal.returns-in_err-consume_comma-clause-tree
returns-in_err-consume_comma-clause-tree g c =
    rw (left_with c.from_residual-in_err-consume_comma.ensures.1) (delimiter_fails
    (members_loop g.M.Members.keyed) (all_members_at g.M.Members.keyed) c.args.self.now c.loop-members.self _
    c.loop-members.invariant.built.visited c.in_err-consume_comma.ensures)

pub loop-members-smaller : goal.loop-members-smaller
loop-members-smaller g c =
    let wanted = rw c.if-branch.true at c.in_ok-consume_comma.ensures in
    shorter Any Never (members_loop g.M.Members.keyed) c.loop-members.self c.consume_comma.new.self
    c.add_member-in-loop-members.new.cursor tt tt wanted (as_one (members_loop g.M.Members.keyed)
    (with_member g.M.Members.keyed) c.consume_comma.new.self c.add_member-in-loop-members.new.cursor _ _
    c.in_ok-add_member-2.ensures.tree)

pub loop-members-preserved : goal.loop-members-preserved
loop-members-preserved g c =
    let wanted = rw c.if-branch.true at c.in_ok-consume_comma.ensures in
    record {
      built = built_more (members_loop g.M.Members.keyed) (ordered_members g.M.Members.keyed)
          (with_member g.M.Members.keyed) (member_added g.M.Members.keyed) c.args.self.now _ c.loop-members.self
          c.consume_comma.new.self c.add_member-in-loop-members.new.cursor _ _ c.loop-members.invariant.built
          wanted c.in_ok-add_member-2.ensures.tree;
      seed = keeps_seed g.M.Members.has_seed c.consume_comma.new.self c.args.self.now c.loop-members.members
          c.add_member-in-loop-members.new.members (wanted.1 ∙ c.loop-members.invariant.built.visited.same)
          c.in_ok-add_member-2.ensures.seed c.loop-members.invariant.seed;
      some = c.loop-members.invariant.some;
    }

pub returns-in_err-add_member-2-clause-tree : goal.returns-in_err-add_member-2-clause-tree
returns-in_err-add_member-2-clause-tree g c =
    let wanted = rw c.if-branch.true at c.in_ok-consume_comma.ensures in
    rw (left_with c.from_residual-in_err-add_member-2.ensures.1) (one_fails (members_loop g.M.Members.keyed)
    (all_members_at g.M.Members.keyed) c.args.self.now c.loop-members.self c.consume_comma.new.self _
    c.loop-members.invariant.built.visited wanted c.in_err-add_member-2.ensures.tree)

pub returns-clause-tree : goal.returns-clause-tree
returns-clause-tree g c =
    let wanted = rw c.if-branch.false at c.in_ok-consume_comma.ensures in
    built_all (members_loop g.M.Members.keyed) (ordered_members g.M.Members.keyed) (with_member g.M.Members.keyed)
    (member_added g.M.Members.keyed) c.args.self.now _ c.loop-members.self c.consume_comma.new.self _
    c.loop-members.invariant.built wanted

pub returns-clause-end : goal.returns-clause-end
returns-clause-end g c = let wanted = rw c.if-branch.false at c.in_ok-consume_comma.ensures in ends_there _ _ wanted.0
