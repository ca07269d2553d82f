use Rattle.sfv.proofs.{reads.Errors.left_with, visits.AsRead.{item_error, item_stops, item_reads}}
use Rattle.sfv.proofs.parser.cursor.Cursor.item.Goals as goal

pub returns-in_err-bare_item-clause-visited : goal.returns-in_err-bare_item-clause-visited
returns-in_err-bare_item-clause-visited g c = rw (left_with c.from_residual.ensures.1)
    (item_error g.V.Visitor c.args.self.now c.bare_item.new.self c.args.visitor.now _ c.in_err-bare_item.ensures.read)

pub returns-in_err-visit-clause-visited : goal.returns-in_err-visit-clause-visited
returns-in_err-visit-clause-visited g c =
    rw (left_with c.from_residual-in_err-visit.ensures.1)
    (item_stops g.V.Visitor c.args.self.now c.bare_item.new.self c.bare_item.new.self c.in_ok-bare_item.bare_item
    c.args.visitor.now c.visit.new.visitor _ c.in_ok-bare_item.ensures.read.0 c.in_ok-bare_item.ensures.borrowed
    c.in_err-visit.ensures.failed c.in_err-visit.ensures.failed_read)

pub returns-clause-visited : goal.returns-clause-visited
returns-clause-visited g c =
    item_reads g.V.Visitor c.args.self.now c.bare_item.new.self c.parameters.new.self c.in_ok-bare_item.bare_item
    c.args.visitor.now c.visit.new.visitor c.parameters.new.visitor c.parameters.result
    c.in_ok-bare_item.ensures.read.1 c.in_ok-bare_item.ensures.read.0 c.in_ok-bare_item.ensures.borrowed
    c.in_ok-visit.ensures.taken c.in_ok-visit.ensures.taken_read c.parameters.ensures.visited
