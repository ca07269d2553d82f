use Rattle.sfv.proofs.reads.Errors.{left_with}
use Rattle.sfv.proofs.visits.AsRead.{value_reads, true_reads, true_begin_stops, true_bare_stops}
use Rattle.sfv.proofs.parser.cursor.Cursor.member_value.Goals as goal

pub returns-then-take_if-clause-visited : goal.returns-then-take_if-clause-visited
returns-then-take_if-clause-visited g c =
    value_reads g.V.Visitor c.args.self.now c.take_if.new.self c.member.new.self c.args.visitor.now
    c.member.new.visitor c.member.result c.take_if.ensures.kept c.if-take_if.ensures.takes c.member.ensures.visited

pub returns-in_err-visit-clause-visited : goal.returns-in_err-visit-clause-visited
returns-in_err-visit-clause-visited g c =
    rw (left_with c.from_residual.ensures.1)
    (true_begin_stops g.V.Visitor c.args.self.now c.take_if.new.self c.take_if.new.self c.args.visitor.now
    c.visit.new.visitor _ c.if-take_if.ensures.takes c.in_err-visit.ensures.failed c.in_err-visit.ensures.failed_read)

pub returns-in_err-visit-2-clause-visited : goal.returns-in_err-visit-2-clause-visited
returns-in_err-visit-2-clause-visited g c =
    rw (left_with c.from_residual-in_err-visit-2.ensures.1)
    (true_bare_stops g.V.Visitor c.args.self.now c.take_if.new.self c.take_if.new.self c.args.visitor.now
    c.visit.new.visitor c.visit-2.new.visitor _ c.if-take_if.ensures.takes c.in_ok-visit.ensures.taken
    c.in_ok-visit.ensures.taken_read c.in_err-visit-2.ensures.failed c.in_err-visit-2.ensures.failed_read)

pub returns-clause-visited : goal.returns-clause-visited
returns-clause-visited g c =
    true_reads g.V.Visitor c.args.self.now c.take_if.new.self c.parameters.new.self c.args.visitor.now
    c.visit.new.visitor c.visit-2.new.visitor c.parameters.new.visitor c.parameters.result c.take_if.ensures.kept
    c.if-take_if.ensures.takes c.in_ok-visit.ensures.taken c.in_ok-visit.ensures.taken_read
    c.in_ok-visit-2.ensures.taken c.in_ok-visit-2.ensures.taken_read c.parameters.ensures.visited
