use Rattle.std.{proofs.Common.rules, specs.Iterator.IsFinite}
use Rattle.sfv_writer.proofs.{Checks.each_more, Separated.anyway}
use Rattle.sfv_writer.proofs.Taken.{none_taken, one_taken, drained, extended, grown_from, grown_parted, stops_unfit}
use Rattle.sfv_writer.proofs.Taken.{stops_full, lacks_part, lacks_separator}
use Rattle.sfv_writer.proofs.element.serialize_each.Goals as goal

pub loop-element-init : goal.loop-element-init
loop-element-init g c =
    let start = c.into_iter-element-iterator.ensures.into_iter_gives in
    let goes : g.I.Iterator.can_next c.into_iter-element-iterator.result × IsFinite (g.I.Iterator.remaining c.into_iter-element-iterator.result) = search rules in (
      goes.0,
      goes.1,
      none_taken g.E.Element.part g.I.Iterator.next_gives c.args.elements c.args.separator.now c.args.is_first c.args.output.now _ start,
      tt,
    )

pub loop-element-preserved : goal.loop-element-preserved
loop-element-preserved g c =
    let parted = c.in_ok-serialize_separator.ensures in
    let written = c.in_ok-serialize.ensures in
    let so_far = c.loop-element.invariant.2 in
    let goes : g.I.Iterator.can_next c.next.new.self × IsFinite (g.I.Iterator.remaining c.next.new.self) =
    search rules in (
      goes.0,
      goes.1,
      one_taken c.in-Some.element so_far c.in-Some.ensures.steps c.serialize_separator.new.output parted.text parted.room.0
          c.serialize.new.output written.text written.room.0 written.valid,
      each_more c.args.version g.E.Element.part.values so_far.taken c.in-Some.element c.loop-element.invariant.3 c.in_ok-check.ensures,
    )

pub returns-clause-text : goal.returns-clause-text
returns-clause-text g c =
    let so_far = c.loop-element.invariant.2 in record {
      taken = so_far.taken;
      drained = drained so_far c.next.new.self c.in-None.ensures.steps;
      written = (so_far.led.first, so_far.led.text);
      valid = so_far.led.good;
      supported = c.loop-element.invariant.3;
    }

pub returns-in_err-check-clause-failed : goal.returns-in_err-check-clause-failed
returns-in_err-check-clause-failed g c =
    let so_far = c.loop-element.invariant.2 in
    stops_unfit c.in-Some.element so_far c.in-Some.ensures.steps c.args.version c.from_residual.result c.loop-element.invariant.3
    c.in_err-check.field-0.0 c.from_residual.ensures.1 c.in_err-check.ensures

pub returns-in_err-serialize_separator-clause-failed : goal.returns-in_err-serialize_separator-clause-failed
returns-in_err-serialize_separator-clause-failed g c =
    let so_far = c.loop-element.invariant.2 in
    stops_full c.in-Some.element so_far c.in-Some.ensures.steps c.args.version _
    c.loop-element.invariant.3 c.from_residual-in_err-serialize_separator.ensures.1 c.in_ok-check.ensures
    (lacks_separator c.in-Some.element so_far c.in-Some.ensures.steps c.in_err-serialize_separator.ensures.room.1)

pub returns-in_err-serialize-clause-failed : goal.returns-in_err-serialize-clause-failed
returns-in_err-serialize-clause-failed g c =
    let so_far = c.loop-element.invariant.2 in
    let parted = c.in_ok-serialize_separator.ensures in
    stops_full c.in-Some.element so_far c.in-Some.ensures.steps c.args.version c.from_residual-in_err-serialize.result
    c.loop-element.invariant.3 c.from_residual-in_err-serialize.ensures.1 c.in_ok-check.ensures
    (lacks_part c.in-Some.element so_far c.in-Some.ensures.steps c.serialize_separator.new.output parted.text
    parted.room.0 c.in_err-serialize.ensures.room.1)

pub returns-in_err-check-clause-kept : goal.returns-in_err-check-clause-kept
returns-in_err-check-clause-kept g c = anyway _ _ (extended c.loop-element.invariant.2)

pub returns-in_err-serialize_separator-clause-kept : goal.returns-in_err-serialize_separator-clause-kept
returns-in_err-serialize_separator-clause-kept g c = anyway _ _
    (grown_from _ c.loop-element.invariant.2 c.in-Some.ensures.steps _ c.in_err-serialize_separator.ensures.text)

pub returns-in_err-serialize-clause-kept : goal.returns-in_err-serialize-clause-kept
returns-in_err-serialize-clause-kept g c =
    let parted = c.in_ok-serialize_separator.ensures in
    anyway _ _ (grown_parted c.in-Some.element c.loop-element.invariant.2 c.in-Some.ensures.steps
    c.serialize_separator.new.output parted.text parted.room.0 _ c.in_err-serialize.ensures.text)
