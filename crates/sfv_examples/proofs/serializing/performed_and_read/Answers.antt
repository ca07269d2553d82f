use Rattle.std.proofs.{Common.{rules, ◌≡◌}, lemmas.Result.{IfOk-weaker, IfErr-weaker}}
use Rattle.sfv.specs.{Field.{RawField, list_field, Rfc9651, canonical, list_tree, described_list}, Values.bare_values}
use Rattle.sfv.proofs.Callers.{one_value, read_back, all_fit_newer, accepted_error}
use Rattle.sfv_examples.proofs.serializing.performed_and_read.Goals as goal

pub returns-clause-read : goal.returns-clause-read
returns-clause-read c =
    let raw : RawField list_field = described_list c.args.calls.now in
    let text : c.as_bytes.result.now ≡ canonical list_field raw = search rules in
    let written = read_back Rfc9651 list_field raw c.in_ok-run_list.ensures.value
    (all_fit_newer (bare_values list_field raw)) in
    let read = rw (c.new.ensures, text) at c.parse.ensures.read in
    IfOk-weaker c.parse.result _ _ (λ again h. one_value Rfc9651 list_field (canonical list_field raw)
    (list_tree again.items) _ h written) read

pub returns-clause-out_of_memory : goal.returns-clause-out_of_memory
returns-clause-out_of_memory c =
    let raw : RawField list_field = described_list c.args.calls.now in
    let text : c.as_bytes.result.now ≡ canonical list_field raw = search rules in
    let written = read_back Rfc9651 list_field raw c.in_ok-run_list.ensures.value
    (all_fit_newer (bare_values list_field raw)) in
    let failed = rw (c.new.ensures, text) at c.parse.ensures.rejected in
    IfErr-weaker c.parse.result _ _
    (λ e h. accepted_error Rfc9651 list_field (canonical list_field raw) written.raw e written.accepted h) failed
