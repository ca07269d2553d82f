use Rattle.std.proofs.Common.{false}
use Rattle.sfv.{specs.Field.list_tree, specs.parser.Trees.with_member, proofs.trees.Fields.entry_builds}
use Rattle.sfv.proofs.parser.tree.ListMembers.add_member.Goals as goal

pub returns-clause-tree : goal.returns-clause-tree
returns-clause-tree c = entry_builds (λ (u : Unit {0}). list_tree c.push_member.new.list.items) (with_member false
    (list_tree c.args.members.now.items)) c.args.cursor.now c.push_member.new.self c.push_member.result
    c.push_member.ensures.tree
