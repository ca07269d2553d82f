use Rattle.std.proofs.Common.{refl}
use Rattle.sfv_spec.specs.Events.{item_events}
use Rattle.sfv_model.specs.{Items.item_at, Members.inner_item_at}
use Rattle.sfv.proofs.{reads.Errors.left_with, visits.AsRead.{led_stops, led_reads}}
use Rattle.sfv_tree.specs.declared.visitor.Event.TheVariants as event
use Rattle.sfv.proofs.parser.cursor.Cursor.inner_item.Goals as goal

pub returns-in_err-visit-clause-visited : goal.returns-in_err-visit-clause-visited
unfolding inner_item_at
returns-in_err-visit-clause-visited g c = rw (left_with c.from_residual.ensures.1)
    (led_stops g.V.Visitor event.Item item_events item_at c.args.self.now c.args.self.now
    c.args.visitor.now c.visit.new.visitor _ refl c.in_err-visit.ensures.failed c.in_err-visit.ensures.failed_read)

pub returns-clause-visited : goal.returns-clause-visited
unfolding inner_item_at
returns-clause-visited g c = led_reads g.V.Visitor event.Item item_events item_at c.args.self.now c.item.new.self
    c.args.visitor.now c.visit.new.visitor c.item.new.visitor c.item.result refl c.in_ok-visit.ensures.taken
    c.in_ok-visit.ensures.taken_read c.item.ensures.visited
