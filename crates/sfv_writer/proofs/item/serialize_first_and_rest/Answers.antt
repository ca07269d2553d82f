use Rattle.std.proofs.Common.{[], ◌∷◌, subst}
use Rattle.indexmap.proofs.MapLemmas.{OnOk-map}
use Rattle.sfv_spec.specs.{Canonical.parameters_text, Values.AllFit}
use Rattle.sfv_values.specs.BareItems.{bare_value, ref_value}
use Rattle.sfv_writer.specs.{Pairs.{lent_pairs, pair_values}, Written.param_text}
use Rattle.sfv_writer.proofs.{Appended.{next, grows_after}, Checks.fails_after, Room.room_before}
use Rattle.sfv_writer.proofs.RoomOfIterators.{named_lacks, lacks_at_first, lacks_after}
use Rattle.sfv_writer.proofs.item.serialize_first_and_rest.Goals as goal

pub returns-clause-text : goal.returns-clause-text
returns-clause-text g c =
    let fit = subst (λ b. AllFit c.args.version (b ∷ [])) c.as_ref_item.ensures.value c.in_ok-check_bare_item.ensures in
    let one = c.in_ok-serialize_parameter.ensures in
    OnOk-map c.serialize_parameters.result _ _
    (λ h. (h.0, h.1, next _ _ _ _ _ one.text h.2, ((one.key, one.value), h.3), (fit.0, h.4)))
    c.serialize_parameters.ensures.text

pub returns-clause-failed : goal.returns-clause-failed
returns-clause-failed g c =
    let version = c.args.version in
    fails_after g.I.Iterator.next_gives c.args.rest pair_values _ _ _ (subst (λ b. AllFit version
    (b ∷ [])) c.as_ref_item.ensures.value c.in_ok-check_bare_item.ensures) c.serialize_parameters.ensures.failed

pub returns-clause-grows : goal.returns-clause-grows
returns-clause-grows g c = grows_after _ _ _ _ c.serialize_parameters.result c.in_ok-serialize_parameter.ensures.text
    c.serialize_parameters.ensures.grows

pub returns-in_err-check_bare_item-clause-room : goal.returns-in_err-check_bare_item-clause-room
returns-in_err-check_bare_item-clause-room g c = named_lacks g.I.Iterator.next_gives c.args.rest (λ taken. pair_values
    (c.args.first ∷ taken)) c.args.version c.args.output.now (λ taken. parameters_text (lent_pairs (c.args.first
    ∷ taken))) _ (ref_value c.as_ref_item.result ∷ []) _ c.from_residual.ensures.1 c.in_err-check_bare_item.ensures

pub returns-in_err-serialize_parameter-clause-room : goal.returns-in_err-serialize_parameter-clause-room
returns-in_err-serialize_parameter-clause-room g c =
    let version = c.args.version in
    let old = c.args.output.now in
    lacks_at_first g.I.Iterator.next_gives c.args.rest (λ taken. pair_values (c.args.first ∷ taken)) version old
    (λ taken. parameters_text (lent_pairs (c.args.first ∷ taken))) c.from_residual-in_err-serialize_parameter.result
    (subst (λ b. AllFit version (b ∷ [])) c.as_ref_item.ensures.value c.in_ok-check_bare_item.ensures) (room_before old
    (param_text c.args.first.0.now (bare_value c.args.first.1.now)) [] c.in_err-serialize_parameter.ensures.room.1)

pub returns-clause-room : goal.returns-clause-room
returns-clause-room g c =
    let version = c.args.version in
    let one = c.in_ok-serialize_parameter.ensures in
    lacks_after g.I.Iterator.next_gives c.args.rest pair_values version (bare_value c.args.first.1.now)
    c.args.output.now c.serialize_parameter.new.output _ (λ taken. parameters_text (lent_pairs taken))
    c.serialize_parameters.result
    (subst (λ b. AllFit version (b ∷ [])) c.as_ref_item.ensures.value c.in_ok-check_bare_item.ensures)
    one.text one.room.0 c.serialize_parameters.ensures.room
