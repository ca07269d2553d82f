use Rattle.std.proofs.Common.{◌≡◌, ◌∙◌, Ok}
use Rattle.sfv_spec.proofs.Marks.{is_space}
use Rattle.sfv_model.specs.Reader.{span}
use Rattle.sfv.specs.{Parsers.input_of, parser.Cursor.rest}
use Rattle.sfv.proofs.{reads.Errors.left_with, trees.Items.start_rejected}
use Rattle.sfv.proofs.parser.tree.parse_item.Goals as goal

pub returns-in_err-expect_bare_item_start-clause-rejected : goal.returns-in_err-expect_bare_item_start-clause-rejected
returns-in_err-expect_bare_item_start-clause-rejected c =
    let skipped : span is_space (input_of c.args.parser) ≡ Ok (c.skip_sp.ensures.skipped.0, rest c.skip_sp.new.self) =
    rw (← c.new-cursor.ensures.rest) c.skip_sp.ensures.skipped.1 in
    rw (left_with c.from_residual.ensures.1) (start_rejected (c.args.parser, c.args.alloc) c.skip_sp.new.self _
    (c.skip_sp.ensures.kept ∙ c.new-cursor.ensures.kept) skipped _ c.in_err-expect_bare_item_start.ensures)
