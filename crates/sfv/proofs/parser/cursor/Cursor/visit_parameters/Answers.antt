use Rattle.std.proofs.Common.{◌∙◌, refl, ap}
use Rattle.sfv_model.{specs.Items.parameter_at, proofs.sound.Items.Consumes-parameter}
use Rattle.sfv.{specs.parser.Cursor.{version, kept_version, rest}, proofs.reads.Errors.{left_with, kept_reads}}
use Rattle.sfv.proofs.visits.AsRead.{read_none, read_more, parameter_error, parameter_stops, end_reads}
use Rattle.sfv.proofs.parser.cursor.Cursor.visit_parameters.Goals as goal

pub loop-parameter-init : goal.loop-parameter-init
loop-parameter-init g c = record {
  ready = c.requires;
  visited = read_none g.V.Visitor (version c.args.self.now) (rest c.args.self.now) c.args.visitor.now;
  kept = refl;
}

pub returns-in_err-parameter-clause-visited : goal.returns-in_err-parameter-clause-visited
returns-in_err-parameter-clause-visited g c = rw (left_with c.from_residual.ensures.1)
    (parameter_error g.V.Visitor c.args.self.now c.loop-parameter.self c.parameter.new.self
    c.args.visitor.now c.loop-parameter.visitor _ c.loop-parameter.invariant.kept
    c.loop-parameter.invariant.visited c.in_err-parameter.ensures.read)

pub returns-in_err-visit-clause-visited : goal.returns-in_err-visit-clause-visited
returns-in_err-visit-clause-visited g c =
    let e = rw c.in-Some.is at c.in_ok-parameter.ensures.read in
    let next = rw c.in-Some.is at c.in_ok-parameter.ensures.next in
    let read = kept_reads parameter_at _ _ _ c.loop-parameter.invariant.kept ∙ e.0 in
    rw (left_with c.from_residual-in_err-visit.ensures.1)
    (parameter_stops g.V.Visitor c.args.self.now c.parameter.new.self (version c.loop-parameter.self)
    (rest c.loop-parameter.self) (rest c.parameter.new.self) c.in-Some.parameter c.args.visitor.now
    c.loop-parameter.visitor c.visit.new.visitor _ (ap kept_version c.loop-parameter.invariant.kept)
    c.loop-parameter.invariant.visited read c.in_err-visit.ensures.failed c.in_err-visit.ensures.failed_read next)

pub loop-parameter-smaller : goal.loop-parameter-smaller
loop-parameter-smaller g c =
    let e = rw c.in-Some.is at c.in_ok-parameter.ensures.read in
    (Consumes-parameter (version c.loop-parameter.self)).consumes _ _ _ e.0

pub loop-parameter-preserved : goal.loop-parameter-preserved
loop-parameter-preserved g c =
    let e = rw c.in-Some.is at c.in_ok-parameter.ensures.read in
    let read = kept_reads parameter_at _ _ _ c.loop-parameter.invariant.kept ∙ e.0 in
    let next = rw c.in-Some.is at c.in_ok-parameter.ensures.next in
    record {
      ready = c.in_ok-visit.ensures.ready;
      visited = read_more g.V.Visitor _ _ _ _ _ c.in-Some.parameter c.args.visitor.now c.loop-parameter.visitor
          c.visit.new.visitor (ap kept_version c.loop-parameter.invariant.kept) c.loop-parameter.invariant.visited read
          c.in_ok-visit.ensures.taken c.in_ok-visit.ensures.taken_read next;
      kept = e.1 ∙ c.loop-parameter.invariant.kept;
    }

pub returns-clause-visited : goal.returns-clause-visited
returns-clause-visited g c =
    let e = rw c.in_default.is at c.in_ok-parameter.ensures.read in
    let same = rw c.in_default.is at c.in_ok-parameter.ensures.next in
    let read = kept_reads parameter_at _ _ _ c.loop-parameter.invariant.kept ∙ e.0 in
    end_reads g.V.Visitor c.args.self.now c.parameter.new.self (rest c.loop-parameter.self) c.args.visitor.now
    c.loop-parameter.visitor c.visit-2.new.visitor c.visit-2.result c.loop-parameter.invariant.visited read same (e.1
    ∙ c.loop-parameter.invariant.kept) c.visit-2.ensures.taken c.visit-2.ensures.taken_read c.visit-2.ensures.failed
    c.visit-2.ensures.failed_read
