use Rattle.sfv.proofs.trees.Parts.{pushed_tree, pushed_seed}
use Rattle.sfv.proofs.parser.cursor.Cursor.push_member.Goals as goal

pub returns-clause-tree : goal.returns-clause-tree
returns-clause-tree c =
    let built = c.in_ok-member.ensures.tree in (
      built.0,
      built.1,
      pushed_tree _ _ _ c.in_ok-member.member built.0 c.in_ok-make_room.ensures.items c.push_reserved.ensures.items
          built.2,
      built.3,
    )

pub returns-clause-seed : goal.returns-clause-seed
returns-clause-seed c h = pushed_seed c.args.self.now.parser.seed _ _ _ c.in_ok-member.member
    c.in_ok-make_room.ensures.items c.push_reserved.ensures.items c.in_ok-member.ensures.seed h
