use Rattle.sfv_spec.proofs.Marks.{left_parenthesis}
use Rattle.sfv_model.specs.Reader.{byte}
use Rattle.sfv.proofs.reads.{Errors.left_with, Steps.skip_takes}
use Rattle.sfv.proofs.visits.AsRead.{list_member_reads, list_member_stops}
use Rattle.sfv.proofs.parser.cursor.Cursor.inner_list_member.Goals as goal

pub returns-in_err-visit-clause-visited : goal.returns-in_err-visit-clause-visited
returns-in_err-visit-clause-visited g c = rw (left_with c.from_residual.ensures.1)
    (list_member_stops g.V.Visitor c.args.self.now c.skip.new.self c.skip.new.self c.args.visitor.now
    c.visit.new.visitor _ (skip_takes _ _ _ c.requires.next c.skip.ensures.skips) c.in_err-visit.ensures.failed
    c.in_err-visit.ensures.failed_read)

pub returns-clause-visited : goal.returns-clause-visited
returns-clause-visited g c = list_member_reads g.V.Visitor c.args.self.now c.skip.new.self c.inner_list.new.self
    c.args.visitor.now c.visit.new.visitor c.inner_list.new.visitor c.inner_list.result c.skip.ensures.kept
    (skip_takes (byte left_parenthesis) _ _ c.requires.next c.skip.ensures.skips) c.in_ok-visit.ensures.taken
    c.in_ok-visit.ensures.taken_read c.inner_list.ensures.visited
