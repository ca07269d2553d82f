use Rattle.std.proofs.Common.{◌∙◌, inr}
use Rattle.sfv.proofs.{reads.Errors.left_with, trees.Fields.{all_rejected, members_read, members_fault, members_memory}}
use Rattle.sfv.proofs.parser.tree.parse_members.Goals as goal

pub returns-in_err-expect_start-clause-rejected : goal.returns-in_err-expect_start-clause-rejected
returns-in_err-expect_start-clause-rejected g c =
    rw (left_with c.from_residual.ensures.1) (all_rejected g.M.Members.keyed c.new-cursor.result c.skip_sp.new.self
    (c.args.parser, c.args.alloc) _ (c.skip_sp.ensures.kept ∙ c.new-cursor.ensures.kept) c.new-cursor.ensures.rest
    c.skip_sp.ensures.skipped.1 _ (inr c.in_err-expect_start.ensures))

pub returns-clause-read : goal.returns-clause-read
returns-clause-read g c = members_read g.M.Members.keyed c.new-cursor.result c.skip_sp.new.self
    (c.args.parser, c.args.alloc) _ (c.skip_sp.ensures.kept ∙ c.new-cursor.ensures.kept) c.new-cursor.ensures.rest
    c.skip_sp.ensures.skipped.1 g.M.Members.tree c.tree_members.new.self c.tree_members.result
    c.tree_members.ensures.end c.tree_members.ensures.tree

pub returns-clause-rejected : goal.returns-clause-rejected
returns-clause-rejected g c = members_fault g.M.Members.keyed c.new-cursor.result c.skip_sp.new.self
    (c.args.parser, c.args.alloc) _ (c.skip_sp.ensures.kept ∙ c.new-cursor.ensures.kept) c.new-cursor.ensures.rest
    c.skip_sp.ensures.skipped.1 g.M.Members.tree c.tree_members.new.self c.tree_members.result
    c.tree_members.ensures.tree

pub returns-clause-memory : goal.returns-clause-memory
returns-clause-memory g c = members_memory g.M.Members.keyed c.new-cursor.result c.skip_sp.new.self
    (c.args.parser, c.args.alloc) _ (c.skip_sp.ensures.kept ∙ c.new-cursor.ensures.kept) c.new-cursor.ensures.rest
    c.skip_sp.ensures.skipped.1 c.tree_members.result c.tree_members.ensures.some
