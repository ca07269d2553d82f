use Rattle.std.proofs.Common.{◌≡◌, ◌++◌, ◌∙◌, [], false, Some, List, ℕ, length, string_bytes, ap, subst, sym, arith}
use Rattle.std.{proofs.Common.{rules, append-nil, Bor}, specs.Map.Iter.{TakesFirst, deref_pair}}
use Rattle.sfv_spec.specs.{Canonical.parameters_text, Values.AreParameters}
use Rattle.sfv_tree.{specs.Trees.{OwnedBareItem, pairs_tree}, proofs.Distinct.pairs_distinct}
use Rattle.sfv_writer.specs.{Versions.parameter_pairs, Written.LacksRoom}
use Rattle.sfv_writer.proofs.{Appended.stops, Elements.{text_as, as_valid}, Lent.lent_all}
use Rattle.sfv_writer.proofs.Parameters.{none_written, none_valid, none_repeated}
use Rattle.sfv_writer.proofs.{Room.refused, RoomOfIterators.pairs_lack}
use Rattle.sfv_writer.proofs.Taken.{none_taken, one_taken, drained, lacks_more, lacks_part}
use Rattle.sfv_writer.proofs.item.serialize_all_parameters.Goals as goal

pub returns-then-is_empty-clause-text : goal.returns-then-is_empty-clause-text
returns-then-is_empty-clause-text g c =
    let none : length c.args.params.now.entries ≡ 0 = search rules in
    none_written (string_bytes c.args.output.now) c.args.params.now.entries none

pub returns-then-is_empty-clause-value : goal.returns-then-is_empty-clause-value
returns-then-is_empty-clause-value g c =
    let none : length c.args.params.now.entries ≡ 0 = search rules in
    none_valid c.args.params.now.entries none

pub returns-then-is_empty-clause-distinct : goal.returns-then-is_empty-clause-distinct
returns-then-is_empty-clause-distinct g c =
    let none : length c.args.params.now.entries ≡ 0 = search rules in
    none_repeated c.args.params.now.entries none

pub loop-key-init : goal.loop-key-init
loop-key-init g c =
    let start : c.into_iter-key-iterator.result ≡ c.args.params.now.entries = search rules in
    none_taken parameter_pairs (TakesFirst deref_pair) c.args.params.now.entries [] false c.args.output.now _ start

pub loop-key-preserved : goal.loop-key-preserved
loop-key-preserved g c =
    let one = c.in_ok-serialize_parameter.ensures in
    let output = c.loop-key.output in
    one_taken (c.in-Some.key, c.in-Some.value) c.loop-key.invariant (search rules) output
    (sym (append-nil (string_bytes output))) (omega arith) c.serialize_parameter.new.output one.text one.room.0 (one.key, one.value)

pub returns-clause-text : goal.returns-clause-text
returns-clause-text g c =
    let so_far = c.loop-key.invariant in
    let lent = lent_all c.args.params.now.entries so_far.taken (drained so_far c.next.new.self (search rules)) in
    so_far.led.text ∙ ap (λ (t : List ℕ). string_bytes c.args.output.now ++ t) (text_as false so_far.taken ∙ ap parameters_text lent)

pub returns-clause-value : goal.returns-clause-value
returns-clause-value g c =
    let so_far = c.loop-key.invariant in
    let lent = lent_all c.args.params.now.entries so_far.taken (drained so_far c.next.new.self (search rules)) in
    subst AreParameters lent (as_valid so_far.taken so_far.led.good)

pub returns-clause-distinct : goal.returns-clause-distinct
returns-clause-distinct g c = pairs_distinct c.args.params.now.entries c.iter-key-items.ensures.unique

pub returns-in_err-serialize_parameter-clause-text : goal.returns-in_err-serialize_parameter-clause-text
returns-in_err-serialize_parameter-clause-text g c = stops (string_bytes c.args.output.now) _ _ _
    (parameters_text (pairs_tree c.args.params.now.entries)) c.from_residual.result c.from_residual.ensures.0
    c.loop-key.invariant.led.text c.in_err-serialize_parameter.ensures.text

pub returns-in_err-serialize_parameter-clause-room : goal.returns-in_err-serialize_parameter-clause-room
returns-in_err-serialize_parameter-clause-room g c =
    let old = c.args.output.now in
    let output = c.loop-key.output in
    let so_far = c.loop-key.invariant in
    let e = c.in_err-serialize_parameter.ensures.room in
    let one : Bor (List ℕ) × Bor OwnedBareItem = (c.in-Some.key, c.in-Some.value) in
    let step : TakesFirst deref_pair c.loop-key.key-iterator (Some one) c.next.new.self = search rules in
    let lacks = lacks_more one so_far step (lacks_part one so_far step output (sym (append-nil (string_bytes output)))
    (omega arith) e.1) in
    refused old c.serialize_parameter.new.output _ c.from_residual.result (omega (arith, so_far.grown, e.0))
    (pairs_lack old c.args.params.now.entries lacks.1 lacks.0 lacks.2
    (subst (λ (l : List ℕ). LacksRoom old l) (text_as false lacks.0) lacks.3))
