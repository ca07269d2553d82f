use Rattle.std.{proofs.Common.{[], ◌∷◌, refl, subst, arith, rules}, specs.Iterator.{IsFinite, Yields}}
use Rattle.sfv_spec.specs.{Canonical.parameters_text, Values.AllFit}
use Rattle.sfv_values.specs.BareItems.{bare_value, ref_value}
use Rattle.sfv_writer.specs.{Pairs.{lent_pairs, pair_values}, Versions.NamesFirstUnfit}
use Rattle.sfv_writer.proofs.Appended.{unchanged, stops_grown}
use Rattle.sfv_writer.proofs.{Checks.{fails_among, memory_among, singles}, Parameters.{text_more, valid_more, fit_more}}
use Rattle.sfv_writer.proofs.RoomOfIterators.{named_lacks, lacks_among, one_lacks}
use Rattle.sfv_writer.proofs.item.serialize_parameters.Goals as goal

pub loop-key-preserved : goal.loop-key-preserved
loop-key-preserved g c =
    let fit = c.in_ok-check_bare_item.ensures in
    let one = c.in_ok-serialize_parameter.ensures in
    let goes : g.I.Iterator.can_next c.next.new.self × IsFinite (g.I.Iterator.remaining c.next.new.self) =
    search rules in (
      goes.0,
      goes.1,
      text_more c.in-Some.key c.in-Some.value _ _ _ c.loop-key.yielded c.loop-key.invariant.2 one.text,
      valid_more c.in-Some.key c.in-Some.value c.loop-key.yielded c.loop-key.invariant.3 one.key one.value,
      fit_more c.in-Some.key c.in-Some.value c.args.version c.loop-key.yielded c.loop-key.invariant.4
          (subst (λ b. AllFit c.args.version (b ∷ [])) c.as_ref_item.ensures.value fit),
      omega (arith, c.loop-key.invariant.5, one.room.0),
    )

pub returns-in_err-check_bare_item-clause-failed : goal.returns-in_err-check_bare_item-clause-failed
returns-in_err-check_bare_item-clause-failed g c =
    let steps = g.I.Iterator.next_gives in
    let version = c.args.version in
    let error = c.in_err-check_bare_item.field-0.0 in
    let ran = subst (λ s. Yields steps s c.loop-key.yielded c.loop-key.key-iterator)
    c.into_iter-key-iterator.ensures.into_iter_gives c.loop-key.yielded_by in
    fails_among steps version (λ p. bare_value p.1.now ∷ []) pair_values (singles (λ p. bare_value p.1.now))
    c.args.params c.loop-key.key-iterator c.next.new.self c.loop-key.yielded (c.in-Some.key, c.in-Some.value)
    c.from_residual.result error c.from_residual.ensures.1 ran c.in-Some.ensures.steps c.loop-key.invariant.4
    (subst (λ b. NamesFirstUnfit version (b ∷ []) error) c.as_ref_item.ensures.value c.in_err-check_bare_item.ensures)

pub returns-in_err-serialize_parameter-clause-failed : goal.returns-in_err-serialize_parameter-clause-failed
returns-in_err-serialize_parameter-clause-failed g c =
    let steps = g.I.Iterator.next_gives in
    let version = c.args.version in
    let ran = subst (λ s. Yields steps s c.loop-key.yielded c.loop-key.key-iterator)
    c.into_iter-key-iterator.ensures.into_iter_gives c.loop-key.yielded_by in
    memory_among steps version (λ p. bare_value p.1.now ∷ []) pair_values (singles (λ p. bare_value p.1.now))
    c.args.params c.loop-key.key-iterator c.next.new.self c.loop-key.yielded (c.in-Some.key, c.in-Some.value)
    c.from_residual-in_err-serialize_parameter.result c.from_residual-in_err-serialize_parameter.ensures.1 ran
    c.in-Some.ensures.steps c.loop-key.invariant.4
    (subst (λ b. AllFit version (b ∷ [])) c.as_ref_item.ensures.value c.in_ok-check_bare_item.ensures)

pub returns-clause-text : goal.returns-clause-text
returns-clause-text g c =
    let ran = subst (λ s. Yields g.I.Iterator.next_gives s c.loop-key.yielded c.loop-key.key-iterator)
    c.into_iter-key-iterator.ensures.into_iter_gives c.loop-key.yielded_by in
    let written = c.loop-key.invariant in (
      c.loop-key.yielded,
      (c.next.new.self, (c.loop-key.key-iterator, ran, c.in-None.ensures.steps)),
      written.2,
      written.3,
      written.4,
    )

pub returns-in_err-check_bare_item-clause-grows : goal.returns-in_err-check_bare_item-clause-grows
returns-in_err-check_bare_item-clause-grows g c = stops_grown _ _ _ _ _ c.loop-key.invariant.2 (unchanged _ _ refl)

pub returns-in_err-serialize_parameter-clause-grows : goal.returns-in_err-serialize_parameter-clause-grows
returns-in_err-serialize_parameter-clause-grows g c =
    stops_grown _ _ _ _ _ c.loop-key.invariant.2 c.in_err-serialize_parameter.ensures.text

pub returns-in_err-check_bare_item-clause-room : goal.returns-in_err-check_bare_item-clause-room
returns-in_err-check_bare_item-clause-room g c =
    named_lacks g.I.Iterator.next_gives c.args.params pair_values c.args.version c.args.output.now
    (λ taken. parameters_text (lent_pairs taken)) c.from_residual.result (ref_value c.as_ref_item.result
    ∷ []) c.in_err-check_bare_item.field-0.0 c.from_residual.ensures.1 c.in_err-check_bare_item.ensures

pub returns-in_err-serialize_parameter-clause-room : goal.returns-in_err-serialize_parameter-clause-room
returns-in_err-serialize_parameter-clause-room g c =
    let steps = g.I.Iterator.next_gives in
    let version = c.args.version in
    let ran = subst (λ s. Yields steps s c.loop-key.yielded c.loop-key.key-iterator)
    c.into_iter-key-iterator.ensures.into_iter_gives c.loop-key.yielded_by in
    lacks_among steps c.args.params c.loop-key.key-iterator c.next.new.self pair_values version c.args.output.now
    (λ taken. parameters_text (lent_pairs taken)) c.from_residual-in_err-serialize_parameter.result c.loop-key.yielded
    (c.in-Some.key, c.in-Some.value) ran c.in-Some.ensures.steps
    (fit_more c.in-Some.key c.in-Some.value version c.loop-key.yielded c.loop-key.invariant.4
    (subst (λ b. AllFit version (b ∷ [])) c.as_ref_item.ensures.value c.in_ok-check_bare_item.ensures))
    (one_lacks c.in-Some.key c.in-Some.value c.loop-key.yielded c.args.output.now c.loop-key.output
    c.loop-key.invariant.2 c.loop-key.invariant.5 c.in_err-serialize_parameter.ensures.room.1)
