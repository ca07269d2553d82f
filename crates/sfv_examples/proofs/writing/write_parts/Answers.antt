use Rattle.std.proofs.Common.{rules, ◌≡◌, [], true, ◌++◌, ◌∙◌, string_bytes, ap, append_assoc, subst, arith, Result, Ok}
use Rattle.std.{proofs.Common.{Err, OnErr}, specs.Iterator.Yields}
use Rattle.std.{specs.Map.Iter.{TakesFirst, deref_pair}, proofs.lemmas.Result.err_from_is_err_and}
use Rattle.sfv.specs.{BareItems.bare_value, Canonical.{bare_text, item_text, parameters_text}}
use Rattle.sfv.specs.{Trees.{pairs_tree, item_tree}, Versions.{StopsEarly, parameter_pairs, parts_text}}
use Rattle.sfv.proofs.Callers.{parameters_all, newer_stops, parameters_lack, room_after}
use Rattle.sfv_examples.proofs.writing.write_parts.Goals as goal

-- what always holds, holds for an error
of_any : {T E P : Type 0} (r : Result T E) → P → OnErr r P
of_any (Ok x) h = tt
of_any (Err e) h = h

pub returns-clause-text : goal.returns-clause-text
returns-clause-text c =
    let item = c.args.item.now in
    let old = string_bytes c.args.text.now in
    let written = c.in_ok-text.ensures.text in
    let all : parts_text parameter_pairs [] true written.taken ≡ parameters_text (pairs_tree item.params.entries) =
    parameters_all c.iter.result written.taken c.iter.ensures.runs written.drained
    ∙ ap (λ es. parameters_text (pairs_tree es)) c.iter.ensures.rest in
    let front : string_bytes c.in_ok-params.params.sink.now ≡ old ++ bare_text (bare_value item.bare_item) =
    search rules in
    let whole : string_bytes c.in_ok-text.field-0.sink.now ≡ old ++ item_text (item_tree item) =
    written.written.0 ∙ rw (front, all) (append_assoc old (bare_text (bare_value item.bare_item))
    (parameters_text (pairs_tree item.params.entries))) in
    (search rules) ∙ whole

-- RFC 9651 has every value
pub returns-in_err-text-clause-failed : goal.returns-in_err-text-clause-failed
returns-in_err-text-clause-failed c =
    let written = c.in_ok-params.ensures in
    let params = c.in_ok-params.params.sink.now in
    let error = c.in_err-text.field-0.0 in
    let early = subst (λ version. StopsEarly parameter_pairs version (TakesFirst deref_pair) c.iter.result [] params true error)
    (written.version ∙ c.with_buffer.ensures.version) c.in_err-text.ensures.failed in
    let exit = err_from_is_err_and c.from_residual-in_err-text.result c.from_residual-in_err-text.ensures.1 in
    rw (exit.1, exit.2) (newer_stops parameter_pairs [] (TakesFirst deref_pair) c.iter.result params true error early)

pub returns-in_err-text-clause-room : goal.returns-in_err-text-clause-room
returns-in_err-text-clause-room c =
    let item = c.args.item.now in
    let old = c.args.text.now in
    let written = c.in_ok-params.ensures in
    let params = c.in_ok-params.params.sink.now in
    let error = c.in_err-text.field-0.0 in
    let early = subst (λ version. StopsEarly parameter_pairs version (TakesFirst deref_pair) c.iter.result [] params true error)
    (written.version ∙ c.with_buffer.ensures.version) c.in_err-text.ensures.failed in
    let lacks = early.room (newer_stops parameter_pairs [] (TakesFirst deref_pair) c.iter.result params true error early) in
    let none = parameters_lack params item.params.entries early.rest early.taken
    (subst (λ s. Yields (TakesFirst deref_pair) s early.taken early.rest) c.iter.ensures.rest early.yielded) lacks in
    let front : string_bytes params ≡ string_bytes old ++ bare_text (bare_value item.bare_item) = search rules in
    of_any c.from_residual-in_err-text.result
    (room_after old params (bare_text (bare_value item.bare_item)) (parameters_text (pairs_tree item.params.entries))
    front (omega (arith, c.with_buffer.ensures.room, written.text.1)) none)
