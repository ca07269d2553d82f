use Rattle.std.proofs.Common.{◌≡◌, true, length, is_some}
use Rattle.sfv_model.specs.Reader.{first}
use Rattle.sfv.specs.parser.{Cursor.{version, rest}, Members.all_members_at, Trees.ordered_members}
use Rattle.sfv.proofs.{trees.Loops.BuiltSoFar, visits.Loops.members_loop}
use Rattle.sfv.proofs.parser.cursor.Cursor.tree_members.Given as goal

abbrev pub invariant-loop-members : goal.invariant-loop-members
invariant-loop-members g l = record {
  built : BuiltSoFar (members_loop g.M.Members.keyed) (ordered_members g.M.Members.keyed) l.fn.self
      (all_members_at g.M.Members.keyed (version l.fn.self) (rest l.fn.self)) l.self (g.M.Members.tree l.members);
  seed : g.M.Members.has_seed l.fn.self.parser.seed l.members;
  some : is_some (first (rest l.fn.self)) ≡ true;
}

abbrev pub decreases-loop-members : goal.decreases-loop-members
decreases-loop-members g l = length (rest l.self)
