use Rattle.std.proofs.{Common.{rules, ◌≡◌}, lemmas.Result.{IfOk-weaker, IfErr-weaker}}
use Rattle.sfv.specs.{BareItems.ref_value, Canonical.item_text, CheckedTexts.text_of as key_text, Trees.item_tree}
use Rattle.sfv.{specs.Types.{item_field, Rfc9651}, specs.Values.RawItem, proofs.Callers.{one_value, accepted_error}}
use Rattle.sfv_examples.specs.Uses.{item_of_one}
use Rattle.sfv_examples.proofs.writing.written_and_read.Goals as goal

pub returns-in-Ok-clause-read : goal.returns-in-Ok-clause-read
returns-in-Ok-clause-read c =
    let item : RawItem = item_of_one (ref_value c.args.value) (key_text c.args.key) (ref_value c.args.param) in
    let text : c.as_bytes.result.now ≡ item_text item = search rules in
    let written = c.in-Ok.ensures.read_back in
    let read = rw (c.new.ensures, text) at c.parse.ensures.read in
    IfOk-weaker c.parse.result _ _ (λ again h. one_value Rfc9651 item_field (item_text item) (item_tree again) item h written) read

pub returns-in-Ok-clause-out_of_memory : goal.returns-in-Ok-clause-out_of_memory
returns-in-Ok-clause-out_of_memory c =
    let item : RawItem = item_of_one (ref_value c.args.value) (key_text c.args.key) (ref_value c.args.param) in
    let text : c.as_bytes.result.now ≡ item_text item = search rules in
    let written = c.in-Ok.ensures.read_back in
    let failed = rw (c.new.ensures, text) at c.parse.ensures.rejected in
    IfErr-weaker c.parse.result _ _ (λ e h. accepted_error Rfc9651 item_field (item_text item) written.raw e
    written.accepted h) failed
