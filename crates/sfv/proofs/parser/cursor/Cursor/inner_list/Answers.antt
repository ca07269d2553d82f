use Rattle.sfv.proofs.{reads.Errors.left_with, visits.AsRead.{items_stop, end_stops, inner_list_reads}}
use Rattle.sfv.proofs.parser.cursor.Cursor.inner_list.Goals as goal

pub returns-in_err-inner_items-clause-visited : goal.returns-in_err-inner_items-clause-visited
returns-in_err-inner_items-clause-visited g c = rw (left_with c.from_residual.ensures.1)
    (items_stop g.V.Visitor c.args.self.now c.inner_items.new.self c.args.visitor.now
    c.inner_items.new.visitor _ c.in_err-inner_items.ensures.visited)

pub returns-in_err-visit-clause-visited : goal.returns-in_err-visit-clause-visited
returns-in_err-visit-clause-visited g c = rw (left_with c.from_residual-in_err-visit.ensures.1)
    (end_stops g.V.Visitor c.args.self.now c.inner_items.new.self c.inner_items.new.self
    c.args.visitor.now c.inner_items.new.visitor c.visit.new.visitor _
    c.in_ok-inner_items.ensures.visited c.in_err-visit.ensures.failed c.in_err-visit.ensures.failed_read)

pub returns-clause-visited : goal.returns-clause-visited
returns-clause-visited g c = inner_list_reads g.V.Visitor c.args.self.now c.inner_items.new.self c.parameters.new.self
    c.args.visitor.now c.inner_items.new.visitor c.visit.new.visitor c.parameters.new.visitor
    c.parameters.result c.in_ok-inner_items.ensures.visited c.in_ok-visit.ensures.taken
    c.in_ok-visit.ensures.taken_read c.parameters.ensures.visited
