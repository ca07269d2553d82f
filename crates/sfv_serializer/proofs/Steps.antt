-- What is known after one more call: of the parameters that were written, and of a serializer.
use Rattle.std.proofs.Common.{◌≡◌, ℕ, ◌+◌, ◌<◌, Bool, List, [], ◌++◌, length, get_or, map, take, sym, ap, subst, ◌∙◌}
use Rattle.std.proofs.Common.{append_assoc, IsTrue, string_bytes, append-nil}
use Rattle.sfv_spec.specs.{Canonical.parameters_text, Classes.is_key}
use Rattle.sfv_spec.specs.Values.{RawParameters, IsBareValue, AreParameters}
use Rattle.sfv_values.specs.{BareItems.ref_value, CheckedTexts.text_of as key_text}
use Rattle.sfv_writer.specs.Written.{param_text}
use Rattle.sfv_writer.proofs.{Parameters.{parameters_push, valid_push}, Separated.mapped_more}
use Rattle.sfv_serializer.specs.Scripts.{param_of_call}
use Rattle.sfv_serializer.specs.Serializers.{HasAppended, KeepsSequence, GrowsSequence, is_empty_so_far}
use Rattle.sfv_serializer.specs.declared.{script.ParamCall.ParamCall, sequence.SequenceSerializer.SequenceSerializer}
use Rattle.sfv_serializer.{specs.declared.sink.Sink.Ghosts as Sink, proofs.Scripts.{extends_again, no_less}}

-- one more piece, after what stands in front
pub put_before : (front so_far new one : List ℕ) → new ≡ so_far ++ one → front ++ new ≡ (front ++ so_far) ++ one
put_before front so_far new one e = ap (λ (t : List ℕ). front ++ t) e ∙ sym (append_assoc front so_far one)

module _ (calls : List ParamCall) (n : ℕ) (x : ParamCall) (lt : n < length calls) (is : x ≡ get_or calls n x) where
  -- the text when one more parameter is written, after others
  pub params_text_more : (front : List ℕ) → front ++ parameters_text (map param_of_call (take (n + 1) calls))
      ≡ (front ++ parameters_text (map param_of_call (take n calls))) ++ param_text (key_text x.key) (ref_value x.value)
  params_text_more front =
      let so_far : RawParameters = map param_of_call (take n calls) in
      let one : List ℕ = param_text (key_text x.key) (ref_value x.value) in
      put_before _ _ _ _ (ap parameters_text (mapped_more _ _ _ _ lt is) ∙ parameters_push _ _)

  -- and each is one
  pub are_params_more : AreParameters (map param_of_call (take n calls)) → IsTrue (is_key (key_text x.key))
      → IsBareValue (ref_value x.value) → AreParameters (map param_of_call (take (n + 1) calls))
  are_params_more h k v = subst AreParameters (sym (mapped_more _ _ _ _ lt is)) (valid_push _ _ h k v)

module _ {W K : Type 0} (w : Sink W) where
  -- more is written
  pub grows : (s t : SequenceSerializer W K) (more : List ℕ) (is_first : Bool) → HasAppended w s t more is_first → GrowsSequence w s t
  grows s t more is_first h = (h.0, (more, h.1), h.4, h.5)

  -- out of memory, nothing is
  pub kept_grows : (s t : SequenceSerializer W K) → KeepsSequence w s t → GrowsSequence w s t
  kept_grows s t h = (h.0, ([], h.1 ∙ sym (append-nil _)), h.4, h.5)

  -- what is known of a serializer holds of the value that its loan ends at
  pub more_at : (s v u : SequenceSerializer W K) (more : List ℕ) (is_first : Bool) → v ≡ u → HasAppended w s v more is_first
      → HasAppended w s u more is_first
  more_at s v u more is_first e h = subst (λ (p : SequenceSerializer W K). HasAppended w s p more is_first) e h

  -- and of what is written after it
  pub grown_again : (again : (r s t : W) → w.same r s → w.same s t → w.same r t) (s t u : SequenceSerializer W K) → GrowsSequence w s t
      → GrowsSequence w t u → GrowsSequence w s u
  grown_again again s t u g h = (again _ _ _ g.0 h.0, extends_again _ _ _ g.1 h.1, h.2 ∙ g.2, no_less g.3 h.3)

  -- more is written after it
  pub more_after : (again : (r s t : W) → w.same r s → w.same s t → w.same r t) (s t u : SequenceSerializer W K)
      (so_far more whole : List ℕ) (is_first : Bool) → HasAppended w s t so_far is_first
      → HasAppended w t u more (is_empty_so_far t) → whole ≡ so_far ++ more → HasAppended w s u whole is_first
  more_after again s t u so_far more whole is_first h k e =
      let before : List ℕ = string_bytes (w.text s.sink) in (
        again _ _ _ h.0 k.0,
        k.1 ∙ ap (λ (t : List ℕ). t ++ more) h.1 ∙ append_assoc before so_far more
            ∙ ap (λ (t : List ℕ). before ++ t) (sym e),
        k.2 ∙ h.2,
        k.3 ∙ h.3,
        k.4 ∙ h.4,
        no_less h.5 k.5,
      )
