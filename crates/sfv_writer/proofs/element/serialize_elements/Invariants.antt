use Rattle.std.proofs.Common.{true, false}
use Rattle.sfv_writer.proofs.Taken.{HasTaken}
use Rattle.sfv_writer.proofs.element.serialize_elements.Given as goal

abbrev pub invariant-loop-element : goal.invariant-loop-element
invariant-loop-element g l =
    (goal.iterator-loop-element g).can_next l.element-iterator
    × (goal.iterator-loop-element g).is_finite l.element-iterator
    × HasTaken g.E.Element.part g.I.Iterator.next_gives l.fn.elements l.fn.separator true l.fn.output l.element-iterator false l.output
