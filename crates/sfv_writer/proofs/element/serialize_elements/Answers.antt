use Rattle.std.proofs.Common.{◌∙◌, true, false, refl, sym, subst, string_bytes, rules, append-nil}
use Rattle.std.specs.Iterator.{IsFinite}
use Rattle.sfv_writer.proofs.Separated.{anyway}
use Rattle.sfv_writer.proofs.Taken.{HasTaken, none_taken, one_taken, drained, grown_from, grown_parted, lacks_more}
use Rattle.sfv_writer.proofs.Taken.{lacks_part, lacks_separator}
use Rattle.sfv_writer.proofs.element.serialize_elements.Goals as goal

pub loop-element-init : goal.loop-element-init
loop-element-init g c =
    let part = g.E.Element.part in
    let gives = g.I.Iterator.next_gives in
    let old = c.args.output.now in
    let written = c.in_ok-serialize.ensures in
    let goes : g.I.Iterator.can_next c.into_iter-element-iterator.result
    × IsFinite (g.I.Iterator.remaining c.into_iter-element-iterator.result) = search rules in (
      goes.0,
      goes.1,
      subst (λ s. HasTaken part gives c.args.elements c.args.separator.now true old s false c.serialize.new.output)
          (sym c.into_iter-element-iterator.ensures.into_iter_gives)
          (one_taken c.in-Some.first (none_taken part gives c.args.elements c.args.separator.now true old c.args.elements refl)
          c.in-Some.ensures.steps c.prepare_for.new.output (c.prepare_for.ensures.text ∙ sym (append-nil (string_bytes old)))
          c.prepare_for.ensures.room c.serialize.new.output written.text written.room.0 written.valid),
    )

pub loop-element-preserved : goal.loop-element-preserved
loop-element-preserved g c =
    let parted = c.in_ok-serialize_separator.ensures in
    let written = c.in_ok-serialize-2.ensures in
    let goes : g.I.Iterator.can_next c.next-in-loop-element.new.self
    × IsFinite (g.I.Iterator.remaining c.next-in-loop-element.new.self) = search rules in (
      goes.0,
      goes.1,
      one_taken c.in-Some-element.element c.loop-element.invariant.2 c.in-Some-element.ensures.steps c.serialize_separator.new.output
          parted.text parted.room.0 c.serialize-in-loop-element.new.output written.text written.room.0 written.valid,
    )

pub returns-clause-text : goal.returns-clause-text
returns-clause-text g c =
    let so_far = c.loop-element.invariant.2 in
    (so_far.taken, drained so_far c.next-in-loop-element.new.self c.in-None.ensures.steps, so_far.led.good, so_far.led.text)

pub returns-in_err-serialize-clause-room : goal.returns-in_err-serialize-clause-room
returns-in_err-serialize-clause-room g c =
    let none = none_taken g.E.Element.part g.I.Iterator.next_gives c.args.elements c.args.separator.now true c.args.output.now c.args.elements refl in
    anyway _ _ (lacks_more c.in-Some.first none c.in-Some.ensures.steps
    (lacks_part c.in-Some.first none c.in-Some.ensures.steps c.prepare_for.new.output (c.prepare_for.ensures.text
    ∙ sym (append-nil (string_bytes c.args.output.now))) c.prepare_for.ensures.room c.in_err-serialize.ensures.room.1))

pub returns-in_err-serialize_separator-clause-room : goal.returns-in_err-serialize_separator-clause-room
returns-in_err-serialize_separator-clause-room g c =
    let so_far = c.loop-element.invariant.2 in
    let step = c.in-Some-element.ensures.steps in
    anyway _ _ (lacks_more c.in-Some-element.element so_far step
    (lacks_separator c.in-Some-element.element so_far step c.in_err-serialize_separator.ensures.room.1))

pub returns-in_err-serialize-2-clause-room : goal.returns-in_err-serialize-2-clause-room
returns-in_err-serialize-2-clause-room g c =
    let so_far = c.loop-element.invariant.2 in
    let step = c.in-Some-element.ensures.steps in
    let parted = c.in_ok-serialize_separator.ensures in
    anyway _ _ (lacks_more c.in-Some-element.element so_far step (lacks_part c.in-Some-element.element so_far step
    c.serialize_separator.new.output parted.text parted.room.0 c.in_err-serialize-2.ensures.room.1))

pub returns-in_err-serialize_separator-clause-kept : goal.returns-in_err-serialize_separator-clause-kept
returns-in_err-serialize_separator-clause-kept g c =
    anyway _ _ (grown_from c.in-Some-element.element c.loop-element.invariant.2 c.in-Some-element.ensures.steps _
    c.in_err-serialize_separator.ensures.text)

pub returns-in_err-serialize-2-clause-kept : goal.returns-in_err-serialize-2-clause-kept
returns-in_err-serialize-2-clause-kept g c =
    let parted = c.in_ok-serialize_separator.ensures in
    anyway _ _ (grown_parted c.in-Some-element.element c.loop-element.invariant.2 c.in-Some-element.ensures.steps
    c.serialize_separator.new.output parted.text parted.room.0 _ c.in_err-serialize-2.ensures.text)
