use Rattle.std.proofs.Common.{refl}
use Rattle.sfv_model.specs.Members.{member_at, entry_at}
use Rattle.sfv.{specs.Field.member_events, proofs.reads.Errors.left_with, proofs.visits.AsRead.{led_stops, led_reads}}
use Rattle.sfv_tree.specs.declared.visitor.Event.TheVariants as event
use Rattle.sfv.proofs.parser.member.EntryMember.consume.Goals as goal

pub returns-in_err-visit-clause-visited : goal.returns-in_err-visit-clause-visited
unfolding entry_at
returns-in_err-visit-clause-visited g c = rw (left_with c.from_residual.ensures.1)
    (led_stops g.V.Visitor event.Entry member_events member_at c.args.cursor.now c.args.cursor.now
    c.args.visitor.now c.visit.new.visitor _ refl c.in_err-visit.ensures.failed c.in_err-visit.ensures.failed_read)

pub returns-clause-visited : goal.returns-clause-visited
unfolding entry_at
returns-clause-visited g c = led_reads g.V.Visitor event.Entry member_events member_at c.args.cursor.now
    c.member.new.self c.args.visitor.now c.visit.new.visitor c.member.new.visitor c.member.result refl
    c.in_ok-visit.ensures.taken c.in_ok-visit.ensures.taken_read c.member.ensures.visited
