use Rattle.std.proofs.Common.{◌∷◌, Some, rules}
use Rattle.indexmap.proofs.MapLemmas.{OnOk-map}
use Rattle.sfv_spec.specs.Canonical.{parameters_text}
use Rattle.sfv_writer.{specs.Pairs.{lent_pairs, pair_values}, proofs.Checks.{fails_from_first, drains_from_first}}
use Rattle.sfv_writer.proofs.{Elements.{params_appended, params_stop}, RoomOfIterators.lacks_from_first}
use Rattle.sfv_writer.proofs.item.append_parameters.Goals as goal

pub returns-clause-text : goal.returns-clause-text
returns-clause-text g c =
    let steps = g.I.Iterator.next_gives in
    let step : steps c.args.params (Some c.in-Some.first) c.next.new.self = search rules in
    params_appended c.args.version steps c.args.params c.args.output.now c.append_first_and_rest.new.output
    c.append_first_and_rest.result (OnOk-map c.append_first_and_rest.result _ _
    (λ h. (c.in-Some.first ∷ h.0, drains_from_first steps c.args.params c.in-Some.first c.next.new.self h.0 step h.1, h.2, h.3, h.4))
    c.append_first_and_rest.ensures.text)

pub returns-clause-failed : goal.returns-clause-failed
returns-clause-failed g c =
    let steps = g.I.Iterator.next_gives in
    let version = c.args.version in
    let old = c.args.output.now in
    let r = c.append_first_and_rest.result in
    let e = c.append_first_and_rest.ensures in
    let step : steps c.args.params (Some c.in-Some.first) c.next.new.self = search rules in
    params_stop version steps c.args.params old c.append_first_and_rest.new.output r
    (fails_from_first steps c.args.params c.in-Some.first c.next.new.self pair_values version r step e.failed)
    (lacks_from_first steps c.args.params c.in-Some.first c.next.new.self pair_values version old
    (λ taken. parameters_text (lent_pairs taken)) r step e.room)
