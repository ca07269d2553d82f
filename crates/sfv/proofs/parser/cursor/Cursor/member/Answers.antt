use Rattle.std.proofs.Common.{refl}
use Rattle.sfv.proofs.{reads.Errors.left_with, visits.AsRead.{item_member_reads, item_member_stops}}
use Rattle.sfv.proofs.parser.cursor.Cursor.member.Goals as goal

pub returns-in_err-visit-clause-visited : goal.returns-in_err-visit-clause-visited
returns-in_err-visit-clause-visited g c = rw (left_with c.from_residual.ensures.1)
    (item_member_stops g.V.Visitor c.args.self.now c.args.self.now c.args.self.now c.args.visitor.now
    c.visit.new.visitor _ (refl, c.if-next_is.ensures) c.in_err-visit.ensures.failed c.in_err-visit.ensures.failed_read)

pub returns-clause-visited : goal.returns-clause-visited
returns-clause-visited g c =
    item_member_reads g.V.Visitor c.args.self.now c.args.self.now c.item.new.self c.args.visitor.now
    c.visit.new.visitor c.item.new.visitor c.item.result refl (refl, c.if-next_is.ensures)
    c.in_ok-visit.ensures.taken c.in_ok-visit.ensures.taken_read c.item.ensures.visited
