use Rattle.std.proofs.{Common.{◌++◌, ◌∷◌, [], List, ℕ, Bool, codes, subst}, lemmas.Result.MatchResult-weaker}
use Rattle.sfv.specs.Canonical.{bare_text, item_text}
use Rattle.sfv.specs.{Field.{ref_value, text_of}, Serializers.{is_empty_so_far, sequence_version, sequence_sink}}
use Rattle.sfv.{specs.Written.{LacksRoom, separator_before}, proofs.Callers.{room_before, room_after}}
use Rattle.sfv_examples.{specs.Uses.item_of_one, proofs.Exits.first_error}
use Rattle.sfv_examples.proofs.serializing.write_pair.Goals as goal

pub returns-in_err-put_with-clause-unsupported : goal.returns-in_err-put_with-clause-unsupported
returns-in_err-put_with-clause-unsupported g c =
    first_error c.in_err-put_with.field-0.0 c.from_residual.result c.from_residual.ensures.1
    (sequence_version c.args.inner.now) (ref_value c.args.first ∷ ref_value c.args.param.1 ∷ []) (ref_value c.args.second ∷ [])
    _ c.in_err-put_with.ensures.unsupported

pub returns-clause-room : goal.returns-clause-room
returns-clause-room g c =
    let old = g.W.Sink.text (sequence_sink (sequence_sink c.args.inner.now).now) in
    let inner = c.put_with.new.inner in
    let mid = g.W.Sink.text (sequence_sink (sequence_sink inner).now) in
    let front : List ℕ = separator_before (is_empty_so_far c.args.inner.now) (codes " ") in
    let first : List ℕ = item_text (item_of_one (ref_value c.args.first) (text_of c.args.param.0) (ref_value c.args.param.1)) in
    let second : List ℕ = bare_text (ref_value c.args.second) in
    let written = c.in_ok-put_with.ensures.text in
    MatchResult-weaker c.write_inner.result c.write_inner.ensures.room (λ x h. h) (λ e h memory.
    let lacks : LacksRoom mid (codes " " ++ second) =
    subst (λ (b : Bool). LacksRoom mid (separator_before b (codes " ") ++ second)) written.2 (h memory) in
    room_after old mid (front ++ first) ((codes " " ++ (second ++ [])) ++ []) written.1 written.5
    (room_before mid (codes " " ++ (second ++ [])) [] (room_before mid (codes " " ++ second) [] lacks)))
