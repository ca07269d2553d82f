use Rattle.std.proofs.Common.{◌≡◌, length}
use Rattle.sfv.{specs.parser.Cursor.{kept, version, rest}, proofs.visits.AsRead.ReadParameters}
use Rattle.sfv.proofs.parser.cursor.Cursor.visit_parameters.Given as goal

abbrev pub invariant-loop-parameter : goal.invariant-loop-parameter
invariant-loop-parameter g l = record {
  ready : g.V.Visitor.is_ready l.visitor;
  visited : ReadParameters g.V.Visitor (version l.fn.self) (rest l.fn.self) (rest l.self) l.fn.visitor l.visitor;
  kept : kept l.self ≡ kept l.fn.self;
}

abbrev pub decreases-loop-parameter : goal.decreases-loop-parameter
decreases-loop-parameter g l = length (rest l.self)
