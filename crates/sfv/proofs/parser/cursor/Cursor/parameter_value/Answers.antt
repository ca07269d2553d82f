use Rattle.sfv.proofs.visits.AsRead.{value_next}
use Rattle.sfv.proofs.parser.cursor.Cursor.parameter_value.Goals as goal

pub returns-then-take_if-clause-next : goal.returns-then-take_if-clause-next
returns-then-take_if-clause-next c = value_next c.args.self.now c.take_if.new.self c.bare_item.new.self
    c.bare_item.result c.take_if.ensures.kept c.if-take_if.ensures.takes c.bare_item.ensures.read
    c.bare_item.ensures.borrowed
