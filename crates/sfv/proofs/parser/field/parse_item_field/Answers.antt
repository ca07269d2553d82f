use Rattle.std.proofs.Common.{◌≡◌, ◌∙◌, Ok, sym}
use Rattle.sfv_spec.proofs.Marks.{is_space}
use Rattle.sfv_model.specs.Reader.{span}
use Rattle.sfv.{specs.Parsers.input_of, specs.parser.Cursor.rest, proofs.reads.Errors.left_with}
use Rattle.sfv.proofs.visits.AsRead.{item_field_fails, item_field_unfinished, item_field_trailing, item_field_done}
use Rattle.sfv.proofs.visits.AsRead.{item_field_read}
use Rattle.sfv.proofs.parser.field.parse_item_field.Goals as goal

pub returns-in_err-item-clause-visited : goal.returns-in_err-item-clause-visited
returns-in_err-item-clause-visited g c =
    let skipped : span is_space (input_of c.args.parser) ≡ Ok (c.skip_sp.ensures.skipped.0, rest c.skip_sp.new.self) =
    rw (← c.new-cursor.ensures.rest) c.skip_sp.ensures.skipped.1 in
    rw (left_with c.from_residual.ensures.1)
    (item_field_fails g.V.Visitor c.args.parser c.args.alloc c.args.visitor c.skip_sp.new.self c.item.new.self _
    c.item.new.visitor (c.skip_sp.ensures.kept ∙ c.new-cursor.ensures.kept) skipped _ c.in_err-item.ensures.visited)

pub returns-in_err-out-clause-visited : goal.returns-in_err-out-clause-visited
returns-in_err-out-clause-visited g c =
    let skipped : span is_space (input_of c.args.parser) ≡ Ok (c.skip_sp.ensures.skipped.0, rest c.skip_sp.new.self) =
    rw (← c.new-cursor.ensures.rest) c.skip_sp.ensures.skipped.1 in
    rw (left_with c.from_residual-in_err-out.ensures.1)
    (item_field_unfinished g.V.Visitor c.args.parser c.args.alloc c.args.visitor c.skip_sp.new.self c.item.new.self _
    c.item.new.visitor (c.skip_sp.ensures.kept ∙ c.new-cursor.ensures.kept) skipped c.in_ok-item.ensures.visited _
    c.in_err-out.ensures.failed)

pub returns-then-is_some-clause-visited : goal.returns-then-is_some-clause-visited
returns-then-is_some-clause-visited g c =
    let skipped : span is_space (input_of c.args.parser) ≡ Ok (c.skip_sp.ensures.skipped.0, rest c.skip_sp.new.self) =
    rw (← c.new-cursor.ensures.rest) c.skip_sp.ensures.skipped.1 in
    rw c.error-error.ensures
    (item_field_trailing g.V.Visitor c.args.parser c.args.alloc c.args.visitor c.skip_sp.new.self c.item.new.self _
    c.item.new.visitor (c.skip_sp.ensures.kept ∙ c.new-cursor.ensures.kept) skipped c.in_ok-item.ensures.visited
    c.skip_sp-2.new.self _ c.in_ok-out.out c.skip_sp-2.ensures.kept c.skip_sp-2.ensures.skipped.1
    (rw (← c.peek.ensures) (sym c.is_some.ensures ∙ c.if-is_some.true)) c.in_ok-out.ensures.answered)

pub returns-clause-visited : goal.returns-clause-visited
returns-clause-visited g c =
    let skipped : span is_space (input_of c.args.parser) ≡ Ok (c.skip_sp.ensures.skipped.0, rest c.skip_sp.new.self) =
    rw (← c.new-cursor.ensures.rest) c.skip_sp.ensures.skipped.1 in
    item_field_done g.V.Visitor c.args.parser c.args.alloc c.args.visitor c.skip_sp.new.self c.item.new.self _
    c.item.new.visitor (c.skip_sp.ensures.kept ∙ c.new-cursor.ensures.kept) skipped c.in_ok-item.ensures.visited _ _
    c.in_ok-out.out c.skip_sp-2.ensures.skipped.1
    (rw (← c.peek.ensures) (sym c.is_some.ensures ∙ c.if-is_some.false)) c.in_ok-out.ensures.answered

pub returns-clause-as_read : goal.returns-clause-as_read
returns-clause-as_read g c =
    let skipped : span is_space (input_of c.args.parser) ≡ Ok (c.skip_sp.ensures.skipped.0, rest c.skip_sp.new.self) =
    rw (← c.new-cursor.ensures.rest) c.skip_sp.ensures.skipped.1 in
    item_field_read g.V.Visitor c.args.parser c.args.alloc c.args.visitor c.skip_sp.new.self c.item.new.self _
    c.item.new.visitor (c.skip_sp.ensures.kept ∙ c.new-cursor.ensures.kept) skipped c.in_ok-item.ensures.visited _ _
    c.in_ok-out.out c.skip_sp-2.ensures.skipped.1
    (rw (← c.peek.ensures) (sym c.is_some.ensures ∙ c.if-is_some.false)) c.in_ok-out.ensures.answered
