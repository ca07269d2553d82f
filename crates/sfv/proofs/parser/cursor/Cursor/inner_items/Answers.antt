use Rattle.std.proofs.Common.{◌≡◌, ◌∙◌, true, false, ap, not, refl, [], is_some}
use Rattle.sfv_spec.proofs.Marks.{right_parenthesis}
use Rattle.sfv_model.specs.Reader.{first, byte}
use Rattle.sfv.specs.parser.Cursor.{rest}
use Rattle.sfv.proofs.reads.{Delimiters.{items_closed, items_first}, Errors.left_with}
use Rattle.sfv.proofs.visits.AsRead.{begun_reads, more_reads, ended_reads, shorter_reads, no_items_read, first_stops}
use Rattle.sfv.proofs.visits.AsRead.{one_stops, delimiter_error}
use Rattle.sfv.proofs.visits.{Loops.items_loop, Passed.{passes_then, passes_spaces, passes_if, Passing-item_delimiter}}
use Rattle.sfv.proofs.parser.cursor.Cursor.inner_items.Goals as goal

pub returns-in_err-inner_item-clause-visited : goal.returns-in_err-inner_item-clause-visited
returns-in_err-inner_item-clause-visited g c = rw (left_with c.from_residual.ensures.1)
    (first_stops g.V.Visitor items_loop c.args.self.now _ c.take_if.new.self c.inner_item.new.self
    c.args.visitor.now c.inner_item.new.visitor _ (passes_then _ _ _ (passes_spaces _ _ _ c.skip_sp.ensures.skipped.1)
    (passes_if (byte right_parenthesis) false _ _ refl c.if-take_if.ensures.takes)) (
      items_first _ _ _ _ _ (rw (← c.peek.ensures) (c.is_none.ensures
          ∙ ap not c.if-is_none.false)) c.skip_sp.ensures.skipped.1 c.if-take_if.ensures.takes,
      c.take_if.ensures.kept ∙ c.skip_sp.ensures.kept,
    ) c.in_err-inner_item.ensures.visited)

pub loop-self-init : goal.loop-self-init
loop-self-init g c = record {
  ready = c.in_ok-inner_item.ensures.ready;
  visited = begun_reads g.V.Visitor items_loop c.args.self.now _ c.take_if.new.self c.inner_item.new.self
      c.args.visitor.now c.inner_item.new.visitor (passes_then _ _ _ (passes_spaces _ _ _ c.skip_sp.ensures.skipped.1)
      (passes_if (byte right_parenthesis) false _ _ refl c.if-take_if.ensures.takes)) (
        items_first _ _ _ _ _ (rw (← c.peek.ensures) (c.is_none.ensures
            ∙ ap not c.if-is_none.false)) c.skip_sp.ensures.skipped.1 c.if-take_if.ensures.takes,
        c.take_if.ensures.kept ∙ c.skip_sp.ensures.kept,
      ) c.in_ok-inner_item.ensures.visited;
}

pub returns-in_err-consume_item_delimiter-clause-visited : goal.returns-in_err-consume_item_delimiter-clause-visited
returns-in_err-consume_item_delimiter-clause-visited g c =
    rw (left_with c.from_residual-in_err-consume_item_delimiter.ensures.1)
    (delimiter_error g.V.Visitor items_loop c.args.self.now _ c.loop-self.self c.consume_item_delimiter.new.self
    c.args.visitor.now c.loop-self.visitor _ c.loop-self.invariant.visited c.in_err-consume_item_delimiter.ensures)

pub loop-self-smaller : goal.loop-self-smaller
loop-self-smaller g c =
    let wanted = rw c.if-branch.true at c.in_ok-consume_item_delimiter.ensures in
    shorter_reads g.V.Visitor items_loop c.loop-self.self c.consume_item_delimiter.new.self
    c.inner_item-in-loop-self.new.self c.loop-self.visitor c.inner_item-in-loop-self.new.visitor wanted
    c.in_ok-inner_item-2.ensures.visited

pub loop-self-preserved : goal.loop-self-preserved
loop-self-preserved g c =
    let wanted = rw c.if-branch.true at c.in_ok-consume_item_delimiter.ensures in
    record {
      ready = c.in_ok-inner_item-2.ensures.ready;
      visited = more_reads g.V.Visitor items_loop c.args.self.now _ c.loop-self.self c.consume_item_delimiter.new.self
          c.inner_item-in-loop-self.new.self c.args.visitor.now c.loop-self.visitor
          c.inner_item-in-loop-self.new.visitor Passing-item_delimiter c.loop-self.invariant.visited wanted
          c.in_ok-inner_item-2.ensures.visited;
    }

pub returns-in_err-inner_item-2-clause-visited : goal.returns-in_err-inner_item-2-clause-visited
returns-in_err-inner_item-2-clause-visited g c =
    let wanted = rw c.if-branch.true at c.in_ok-consume_item_delimiter.ensures in
    rw (left_with c.from_residual-in_err-inner_item-2.ensures.1)
    (one_stops g.V.Visitor items_loop c.args.self.now _ c.loop-self.self c.consume_item_delimiter.new.self
    c.inner_item-in-loop-self.new.self c.args.visitor.now c.loop-self.visitor c.inner_item-in-loop-self.new.visitor _
    Passing-item_delimiter c.loop-self.invariant.visited wanted c.in_err-inner_item-2.ensures.visited)

pub returns-clause-visited : goal.returns-clause-visited
returns-clause-visited g c =
    let wanted = rw c.if-branch.false at c.in_ok-consume_item_delimiter.ensures in
    ended_reads g.V.Visitor items_loop c.args.self.now _ c.loop-self.self c.consume_item_delimiter.new.self
    c.args.visitor.now c.loop-self.visitor Passing-item_delimiter c.loop-self.invariant.visited wanted

pub returns-then-is_none-clause-visited : goal.returns-then-is_none-clause-visited
returns-then-is_none-clause-visited g c =
    let none : is_some (first (rest c.args.self.now)) ≡ false =
    rw (← c.peek.ensures) (c.is_none.ensures ∙ ap not c.if-is_none.true) in
    rw c.error-error.ensures (no_items_read g.V.Visitor c.args.self.now c.args.visitor.now none)

pub returns-then-take_if-clause-visited : goal.returns-then-take_if-clause-visited
returns-then-take_if-clause-visited g c t pass = (
  t,
  passes_then t _ _ pass (passes_then _ _ _ (passes_spaces _ _ _ c.skip_sp.ensures.skipped.1)
      (passes_if (byte right_parenthesis) true _ _ refl c.if-take_if.ensures.takes)),
  (
    [],
    items_closed _ _ _ _ _ (rw (← c.peek.ensures) (c.is_none.ensures
        ∙ ap not c.if-is_none.false)) c.skip_sp.ensures.skipped.1 c.if-take_if.ensures.takes,
    refl,
    c.take_if.ensures.kept ∙ c.skip_sp.ensures.kept,
  ),
)
