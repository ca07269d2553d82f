use Rattle.std.proofs.Common.{◌∙◌, refl, inr}
use Rattle.sfv_model.specs.{Items.key_at, Members.{member_value_at, keyed_at}}
use Rattle.sfv_tree.specs.Seeds.{MemberHasSeed}
use Rattle.sfv.specs.{Field.text_of as key_text, parser.Cursor.{version, rest}}
use Rattle.sfv.proofs.{reads.Errors.{left_with, kept_reads}, trees.Errors.fails_in}
use Rattle.sfv.proofs.trees.{Loops.seed_kept, Parts.{key_fails, keyed_fails, keyed_some, entered_tree, entered_seed}}
use Rattle.sfv.proofs.parser.cursor.Cursor.insert_member.Goals as goal

pub returns-in_err-key-clause-tree : goal.returns-in_err-key-clause-tree
returns-in_err-key-clause-tree c =
    rw (left_with c.from_residual.ensures.1) (fails_in (λ _. key_at) keyed_at c.args.self.now c.args.self.now _ refl
    (key_fails (version c.args.self.now) (rest c.args.self.now)) (inr c.in_err-key.ensures.read))

pub returns-in_err-member-clause-tree : goal.returns-in_err-member-clause-tree
returns-in_err-member-clause-tree c =
    let read = c.in_ok-key.ensures.read in
    rw (left_with c.from_residual-in_err-member.ensures.1) (fails_in member_value_at keyed_at c.args.self.now
    c.key.new.self _ read.1 (keyed_fails (version c.args.self.now) _ _ _ read.0) c.in_err-member.ensures.tree)

pub returns-clause-tree : goal.returns-clause-tree
returns-clause-tree c =
    let built = c.in_ok-member.ensures.tree in
    let read = c.in_ok-key.ensures.read in (
      (key_text c.in_ok-key.key, built.0),
      keyed_some _ _ _ _ _ _ read.0 (kept_reads member_value_at _ _ _ read.1 ∙ built.1),
      entered_tree _ _ _ _ built.0 _ c.in_ok-enter_member.ensures.entries c.in_ok-key-2.ensures.text built.2,
      built.3 ∙ read.1,
    )

pub returns-clause-seed : goal.returns-clause-seed
returns-clause-seed c h = entered_seed c.args.self.now.parser.seed _ _ _ c.in_ok-member.member
    c.in_ok-enter_member.ensures.entries (seed_kept (λ s. MemberHasSeed s c.in_ok-member.member) c.key.new.self
    c.args.self.now c.in_ok-key.ensures.read.1 c.in_ok-member.ensures.seed) h
