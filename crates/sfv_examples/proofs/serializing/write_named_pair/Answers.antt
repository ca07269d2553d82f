use Rattle.std.proofs.Common.{◌≡◌, [], ◌∷◌, ◌++◌, ◌∙◌, List, ℕ, sym, ap, subst, codes, string_bytes, rules, append-nil}
use Rattle.sfv.specs.{BareItems.ref_value, CheckedTexts.text_of as key_text}
use Rattle.sfv.specs.Serializers.{is_empty_so_far, sequence_version, sequence_sink, params_sink}
use Rattle.sfv.specs.{Types.Version, Written.{LacksRoom, separator_before, param_text}}
use Rattle.sfv.proofs.Callers.{named_list_ended, more_as, no_less, room_before}
use Rattle.sfv_examples.specs.Uses.{pair_of, named_pair_text}
use Rattle.sfv_examples.proofs.Exits.{IsWriteError, at_exit, more_values, of_memory, unseparated, items_lack}
use Rattle.sfv_examples.proofs.Exits.{ending_lacks, params_lack}
use Rattle.sfv.specs.Types.serialize_errors as errors
use Rattle.sfv_examples.proofs.serializing.write_named_pair.Goals as goal

pub returns-clause-text : goal.returns-clause-text
returns-clause-text g c =
    let s = g.W.Sink in
    let a = c.args in
    let again = g.met.W.Sink.same_again in
    let begun = c.in_ok-inner.ensures in
    let pair = c.in_default.ensures.text in
    let closed = c.in_ok-finish.ensures.text in
    let ended = c.in_ok-dictionary.ensures.text in
    let text = named_list_ended _ _ _ _ _ (separator_before (is_empty_so_far a.dictionary.now) (codes ", ")) (key_text a.name) _
    (pair_of (ref_value a.first) (key_text a.param.0) (ref_value a.param.1) (ref_value a.second))
    ((key_text a.ending.0, ref_value a.ending.1) ∷ []) begun.text.1 pair.1 begun.begins.0 closed.1
    (ended.1 ∙ ap (λ t. string_bytes (s.text c.in_ok-finish.field-0.sink.now.sink) ++ t) (sym (append-nil _))) in
    let same = again _ _ _ begun.text.0 (again _ _ _ pair.0.1 (again _ _ _ closed.0 ended.0)) in
    more_as s a.dictionary.now c.in_ok-dictionary.field-0.sink.now _ _ _ _ _ _ (
      same,
      text,
      ended.2 ∙ closed.2,
      ended.3 ∙ closed.3 ∙ pair.0.3 ∙ begun.text.3,
      ended.4 ∙ closed.4 ∙ pair.0.4 ∙ begun.text.4,
      no_less begun.text.5 (no_less pair.5 (no_less closed.5 ended.5)),
    ) (search rules) (search rules) (search rules) (search rules)

pub returns-in-Err-clause-unsupported : goal.returns-in-Err-clause-unsupported
returns-in-Err-clause-unsupported g c =
    let a = c.args in
    let front = ref_value a.first ∷ ref_value a.param.1 ∷ ref_value a.second ∷ [] in
    more_values (sequence_version a.dictionary.now) front (ref_value a.ending.1 ∷ []) c.in-Err.error
    (subst (λ (version : Version). IsWriteError version front c.in-Err.error) c.in_ok-inner.ensures.version
    c.in-Err.ensures.unsupported)

pub returns-in-Err-clause-room : goal.returns-in-Err-clause-room
returns-in-Err-clause-room g c =
    let a = c.args in
    let begun = c.in_ok-inner.ensures in
    λ memory. items_lack (g.W.Sink.text a.dictionary.now.sink) (separator_before
    (is_empty_so_far a.dictionary.now) (codes ", ")) (key_text a.name) (is_empty_so_far c.in_ok-inner.inner)
    (pair_of (ref_value a.first) (key_text a.param.0) (ref_value a.param.1) (ref_value a.second))
    ((key_text a.ending.0, ref_value a.ending.1) ∷ []) begun.begins.0 (g.W.Sink.text
    (sequence_sink c.in_ok-inner.inner).now.sink) begun.text.1 begun.text.5 (c.in-Err.ensures.room memory)

pub returns-in_err-finish-clause-room : goal.returns-in_err-finish-clause-room
returns-in_err-finish-clause-room g c =
    let a = c.args in
    let begun = c.in_ok-inner.ensures in
    let pair = c.in_default.ensures.text in
    let inner = (sequence_sink c.write_pair.new.inner).now in
    of_memory c.from_residual-in_err-finish.result _ (ending_lacks (g.W.Sink.text a.dictionary.now.sink)
    (separator_before (is_empty_so_far a.dictionary.now) (codes ", ")) (key_text a.name)
    (is_empty_so_far c.in_ok-inner.inner) (pair_of (ref_value a.first) (key_text a.param.0) (ref_value a.param.1)
    (ref_value a.second)) ((key_text a.ending.0, ref_value a.ending.1) ∷ []) begun.begins.0 (g.W.Sink.text
    (sequence_sink c.in_ok-inner.inner).now.sink) begun.text.1 begun.text.5 (g.W.Sink.text inner.sink) pair.1 pair.5
    (unseparated (g.W.Sink.text inner.sink) inner.is_first (codes ")") c.in_err-finish.ensures.room))

pub returns-in_err-dictionary-clause-room : goal.returns-in_err-dictionary-clause-room
returns-in_err-dictionary-clause-room g c =
    let a = c.args in
    let begun = c.in_ok-inner.ensures in
    let pair = c.in_default.ensures.text in
    let closed = c.in_ok-finish.ensures.text in
    let inner = (sequence_sink c.write_pair.new.inner).now in
    let last = g.W.Sink.text (params_sink c.in_ok-finish.field-0).now.sink in
    let old = g.W.Sink.text a.dictionary.now.sink in
    let front : List ℕ = separator_before (is_empty_so_far a.dictionary.now) (codes ", ") in
    at_exit c.in_err-dictionary.field-0.0 c.from_residual-in_err-dictionary.result
    c.from_residual-in_err-dictionary.ensures.1 _ (λ e. e ≡ errors.OutOfMemory → LacksRoom old
    (front ++ named_pair_text a.name a.first a.param a.second a.ending)) (λ memory. params_lack old front
    (key_text a.name) (is_empty_so_far c.in_ok-inner.inner) (pair_of (ref_value a.first) (key_text a.param.0)
    (ref_value a.param.1) (ref_value a.second)) ((key_text a.ending.0, ref_value a.ending.1) ∷ []) begun.begins.0
    (g.W.Sink.text (sequence_sink c.in_ok-inner.inner).now.sink) begun.text.1 begun.text.5
    (g.W.Sink.text inner.sink) pair.1 pair.5 last closed.1 closed.5 (room_before last
    (param_text (key_text a.ending.0) (ref_value a.ending.1)) [] (c.in_err-dictionary.ensures.room memory)))
