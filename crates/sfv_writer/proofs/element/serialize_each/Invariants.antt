use Rattle.std.proofs.Common.{flat_map}
use Rattle.sfv_spec.specs.Values.{AllFit}
use Rattle.sfv_writer.proofs.Taken.{HasTaken}
use Rattle.sfv_writer.proofs.element.serialize_each.Given as goal

abbrev pub invariant-loop-element : goal.invariant-loop-element
invariant-loop-element g l = (goal.iterator-loop-element g).can_next l.element-iterator
    × (goal.iterator-loop-element g).is_finite l.element-iterator
    × (h : HasTaken g.E.Element.part g.I.Iterator.next_gives l.fn.elements l.fn.separator l.fn.is_first
    l.fn.output l.element-iterator l.none l.output) × AllFit l.version (flat_map g.E.Element.part.values h.taken)
