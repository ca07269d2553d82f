use Rattle.std.proofs.Common.{length}
use Rattle.sfv_model.specs.Members.{inner_items_at}
use Rattle.sfv.{specs.parser.Cursor.{version, rest}, proofs.visits.AsRead.ReadSoFar, proofs.visits.Loops.items_loop}
use Rattle.sfv.proofs.parser.cursor.Cursor.inner_items.Given as goal

abbrev pub invariant-loop-self : goal.invariant-loop-self
invariant-loop-self g l = record {
  ready : g.V.Visitor.is_ready l.visitor;
  visited : ReadSoFar g.V.Visitor items_loop l.fn.self (inner_items_at (version l.fn.self) (rest l.fn.self)) l.self
      l.fn.visitor l.visitor;
}

abbrev pub decreases-loop-self : goal.decreases-loop-self
decreases-loop-self g l = length (rest l.self)
