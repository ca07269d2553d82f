-- What is written call by call after a serializer.
use Rattle.std.proofs.Common.{◌≡◌, ◌≤◌, ℕ, Bool, List, [], ◌++◌, Result, Err, sym, ap, ◌∙◌, subst, append_assoc}
use Rattle.std.proofs.Common.{string_bytes, string_capacity, OnErr, append-nil}
use Rattle.sfv.specs.{Serializers.{HasAppended, KeepsSequence}, Written.Extends}
use Rattle.sfv.specs.declared.{SequenceSerializer.SequenceSerializer, Sink.Ghosts as Sink}
use Rattle.sfv.proofs.Callers.{no_less}

-- a part and its one parameter
pub with_param : (front part param : List ℕ) → front ++ (part ++ (param ++ [])) ≡ (front ++ part) ++ param
with_param front part param = ap (λ t. front ++ (part ++ t)) (append-nil param) ∙ sym (append_assoc front part param)

module _ {W K : Type 0} (w : Sink W) where
  -- more stands at the end, whatever it is
  pub grown_as : (s t : SequenceSerializer W K) (b : W) (k : K) (more : List ℕ) (is_first : Bool) → HasAppended w s t more is_first
      → b ≡ t.sink → k ≡ t.kind
      → w.same s.sink b × Extends (string_bytes (w.text s.sink)) (string_bytes (w.text b)) × (k ≡ s.kind)
      × (string_capacity (w.text s.sink) ≤ string_capacity (w.text b))
  grown_as s t b k more is_first h last kind = rw last (h.0, (more, h.1), kind ∙ h.4, h.5)

module _ {W K : Type 0} (w : Sink W) (again : (r s t : W) → w.same r s → w.same s t → w.same r t) where
  -- more was written, and the next call failed
  pub grown_rests : {A E : Type 0} (s t u : SequenceSerializer W K) (b : W)
      (k : K) (more : List ℕ) (is_first : Bool) (P : Type 0) (r : Result A E) (e : E)
      → HasAppended w s t more is_first → r ≡ Err e → OnErr r (KeepsSequence w t u × P)
      → b ≡ u.sink → k ≡ u.kind → w.same s.sink b × Extends (string_bytes (w.text s.sink))
      (string_bytes (w.text b)) × (k ≡ s.kind) × (string_capacity (w.text s.sink) ≤ string_capacity (w.text b))
  grown_rests s t u b k more is_first P r e begun is h last kind =
      let kept : KeepsSequence w t u = (subst (λ (r : Result _ _). OnErr r (KeepsSequence w t u × P)) is h).0 in
      rw last (again _ _ _ begun.0 kept.0, (more, kept.1 ∙ begun.1), kind ∙ kept.4 ∙ begun.4, no_less begun.5 kept.5)
