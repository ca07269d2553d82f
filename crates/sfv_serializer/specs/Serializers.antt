-- The texts of serializers.
use Rattle.std.specs.Prelude.{◌≡◌, ◌≤◌, ◌++◌, ℕ, Bool, true, false, List, [], codes, Option, Result, string_bytes}
use Rattle.std.specs.Prelude.{string_len, string_capacity}
use Rattle.std.specs.Borrow.{Bor, MutBor, RattleType, Fml, RestsIfErr}
use Rattle.sfv_spec.specs.Canonical.{value_text}
use Rattle.sfv_spec.specs.declared.version.Version.{Version}
use Rattle.sfv_values.specs.BareItems.{ref_value}
use Rattle.sfv_values.specs.declared.bare.GenericBareItem.{GenericBareItem}
use Rattle.sfv_values.specs.KeyText.{KeyRef}
use Rattle.sfv_values.specs.CheckedTexts.{text_of}
use Rattle.sfv_values.specs.StringText.{StringRef}
use Rattle.sfv_values.specs.TokenText.{TokenRef}
use Rattle.sfv_tree.specs.Trees.{OwnedBareItem}
use Rattle.sfv_writer.specs.Versions.{OnUnsupported, PartKind, parts_text, TakesAll, StopsEarly, parameter_pairs}
use Rattle.sfv_writer.specs.Written.{Extends, IsTruncatedTo, LacksRoom, separator_before, is_first_after}
use Rattle.sfv_writer.specs.declared.serialize_error.SerializeError.{SerializeError}
use Rattle.sfv_serializer.specs.declared.parameter_serializer.ParameterSerializer.{ParameterSerializer}
use Rattle.sfv_serializer.specs.declared.sink.Sink.{Ghosts as Sink}
use Rattle.sfv_serializer.specs.declared.sequence_kind.InnerListItems.{InnerListItems}
use Rattle.sfv_serializer.specs.declared.sequence.SequenceSerializer.{SequenceSerializer}
use Rattle.sfv_serializer.specs.contracts.sequence.SequenceSerializer as sequence
use Rattle.sfv_serializer.specs.Texts.{Text}

-- the borrowed output of a parameter serializer
abbrev pub params_sink : {X : Type 0} → ParameterSerializer X → MutBor X
params_sink s = s.sink

-- on success, the result borrows the argument; after an error, `says` holds of the old and the new state of the argument
abbrev pub AfterErr : {R E : Type 0} (row : RattleType) → (R → MutBor row.Denot) → (row.Denot → row.Denot → Type 0)
    → MutBor row.Denot → Result R E → Fml
AfterErr row sink says lent result = RestsIfErr row lent (λ r. (sink r).ghost_name) result (says lent.now)

-- the same text, with no less room
abbrev pub KeepsText : Text → Text → Type 0
KeepsText s t = (string_bytes t ≡ string_bytes s) × (string_capacity s ≤ string_capacity t)

-- the same after an error of a call that writes one value; after `Unsupported`, the capacity is unchanged, too
abbrev pub KeepsTextAfterOne : {T : Type 0} → Result T SerializeError → Text → Text → Type 0
KeepsTextAfterOne result s t = KeepsText s t × OnUnsupported result (t ≡ s)

-- this text is appended to the borrowed text, which has no less room, and which `p` writes to
abbrev pub ContinuesText : MutBor Text → List ℕ → ParameterSerializer Text → Type 0
ContinuesText lent more p = (string_bytes p.sink.now ≡ string_bytes lent.now ++ more)
    × (string_capacity lent.now ≤ string_capacity p.sink.now)

-- the text of a key with its value
abbrev pub keyed : KeyRef → GenericBareItem StringRef (Bor (List ℕ)) TokenRef (Bor (List ℕ)) → List ℕ
keyed key value = text_of key ++ value_text (ref_value value)

-- the text of a parameter
abbrev pub param : KeyRef → GenericBareItem StringRef (Bor (List ℕ)) TokenRef (Bor (List ℕ)) → List ℕ
param key value = codes ";" ++ keyed key value

-- the version of a parameter serializer
abbrev pub params_version : {X : Type 0} → ParameterSerializer X → Version
params_version s = s.version

-- the output of a serializer of parts
abbrev pub sequence_sink : {W K : Type 0} → SequenceSerializer W K → W
sequence_sink s = s.sink

-- the serializer has written no part yet
abbrev pub is_empty_so_far : {W K : Type 0} → SequenceSerializer W K → Bool
is_empty_so_far s = s.is_first

-- the version of a serializer of parts
abbrev pub sequence_version : {W K : Type 0} → SequenceSerializer W K → Version
sequence_version s = s.version

-- a serializer of parts: the members of a list or a dictionary, or the items of an inner list
abbrev pub Parts : Type 0 → Type 0 → Type 0
Parts = SequenceSerializer

-- a serializer of the items of an inner list, which borrows the serializer of the parts around it
abbrev pub InnerList : Type 0 → Type 0 → Type 0
InnerList W K = SequenceSerializer (MutBor (Parts W K)) InnerListItems

module _ {W : Type 0} (w : Sink W) where
  -- the same output, version and kind, and the same `is_empty_so_far`
  abbrev pub IsSameSequence : {K : Type 0} → MutBor (Parts W K) → MutBor (Parts W K) → Type 0
  IsSameSequence s t = (t.ghost_name ≡ s.ghost_name) × w.same s.now.sink t.now.sink
      × (t.now.is_first ≡ s.now.is_first) × (t.now.version ≡ s.now.version) × (t.now.kind ≡ s.now.kind)

  -- borrowed parts, as an output
  abbrev pub lent_sequence : {K : Type 0} → Sink (MutBor (Parts W K))
  lent_sequence = record {
    text = λ s. w.text s.now.sink;
    with_text = λ s t. record s { now = record s.now { sink = w.with_text s.now.sink t } };
    same = IsSameSequence;
  }

  -- The same output, version and kind, and no less room; this holds of the text; and `is_first` says whether no part
  -- is written then.
  abbrev pub Becomes : {K : Type 0} → Type 0 → Bool → Parts W K → Parts W K → Type 0
  Becomes Holds is_first s t = w.same s.sink t.sink × Holds × (t.is_first ≡ is_first) × (t.version ≡ s.version)
      × (t.kind ≡ s.kind) × (string_capacity (w.text s.sink) ≤ string_capacity (w.text t.sink))

  -- nothing changes, but there may be more room
  abbrev pub KeepsSequence : {K : Type 0} → Parts W K → Parts W K → Type 0
  KeepsSequence s t = Becomes (string_bytes (w.text t.sink) ≡ string_bytes (w.text s.sink)) s.is_first s t

  -- the same after an error of a call that writes one value; after `Unsupported`, the capacity is unchanged, too
  abbrev pub KeepsAfterOne : {K T : Type 0} → Result T SerializeError → Parts W K → Parts W K → Type 0
  KeepsAfterOne result s t = KeepsSequence s t × OnUnsupported result (t ≡ s)

  -- this text is appended, and `is_first` says whether no part is written then
  abbrev pub HasAppended : {K : Type 0} → Parts W K → Parts W K → List ℕ → Bool → Type 0
  HasAppended s t more is_first =
      Becomes (string_bytes (w.text t.sink) ≡ string_bytes (w.text s.sink) ++ more) is_first s t

  -- the same for one part, after the separator unless it is the first
  abbrev pub HasAppendedNext : {K : Type 0} → List ℕ → Parts W K → Parts W K → List ℕ → Bool → Type 0
  HasAppendedNext separator s t text is_first = HasAppended s t (separator_before s.is_first separator ++ text) is_first

  -- the same output and kind; the old text is a prefix of the new one
  abbrev pub GrowsSequence : {K : Type 0} → Parts W K → Parts W K → Type 0
  GrowsSequence s t = w.same s.sink t.sink × Extends (string_bytes (w.text s.sink)) (string_bytes (w.text t.sink))
      × (t.kind ≡ s.kind) × (string_capacity (w.text s.sink) ≤ string_capacity (w.text t.sink))

  -- the inner list `l` is removed: the text before it is back
  abbrev pub Removes : {K : Type 0} → InnerList W K → Parts W K → Parts W K → Type 0
  Removes l s t = Becomes
      (IsTruncatedTo l.kind.len_before (string_bytes (w.text s.sink)) (string_bytes (w.text t.sink))) s.is_first s t

module _ {W K : Type 0} (w : Sink W) where
  -- `t` is `s` with the text of all parts that the iterator gives, and the version of `s` has their values
  abbrev pub WritesAll : {A S : Type 0} → List ℕ → PartKind A → (S → Option A → S → Type 0) → S → Parts W K → Parts W K
      → Type 0
  WritesAll separator kind gives from s t = TakesAll kind s.version gives from
      (λ taken. HasAppended w s t (parts_text kind separator s.is_first taken) (is_first_after s.is_first taken))

  -- the error of appending the parts of an iterator to `s`
  abbrev pub FailsToWrite : {A S : Type 0} → List ℕ → PartKind A → (S → Option A → S → Type 0) → S → Parts W K
      → SerializeError → Type 0
  FailsToWrite separator kind gives from s = StopsEarly kind s.version gives from separator (w.text s.sink) s.is_first

  -- an item of this text is appended to `s` as the next part, and `p` writes its parameters
  abbrev pub HasAppendedItem : List ℕ → Parts W K → List ℕ → ParameterSerializer (Parts W K) → Type 0
  HasAppendedItem separator s text p = HasAppendedNext w separator s p.sink.now text false

  -- an inner list that begins with this text is appended to `s` as the next part, and `l` writes its items
  abbrev pub HasAppendedOpening : List ℕ → Parts W K → List ℕ → InnerList W K → Type 0
  HasAppendedOpening separator s text l = HasAppendedNext w separator s l.sink.now text s.is_first

  -- `l` has no item, and keeps the length of the text of `s`
  abbrev pub BeginsAfter : Parts W K → InnerList W K → Type 0
  BeginsAfter s l = (is_empty_so_far l ≡ true) × (l.kind.len_before ≡ string_len (w.text s.sink))

  -- this text is appended to the borrowed parts, which `p` writes to
  abbrev pub Continues : MutBor (Parts W K) → List ℕ → ParameterSerializer (Parts W K) → Type 0
  Continues lent more p = HasAppended w lent.now p.sink.now more lent.now.is_first

  -- the text that parameters are appended to
  abbrev pub params_text : ParameterSerializer (Parts W K) → Text
  params_text s = w.text s.sink.now.sink

  -- the capacity of the text of `s` doesn't hold a next part of this text, with the separator before it
  abbrev pub LacksNext : List ℕ → Parts W K → List ℕ → Type 0
  LacksNext separator s text = LacksRoom (w.text s.sink) (separator_before s.is_first separator ++ text)

module _ {X S : Type 0} (gives : S → Option (Bor (List ℕ) × Bor OwnedBareItem) → S → Type 0) (pairs : S) where
  -- All parameters that the iterator gives are appended to `s`, by this relation for a text. `p` writes more of them.
  abbrev pub WritesParameters : (MutBor X → List ℕ → ParameterSerializer X → Type 0) → ParameterSerializer X
      → ParameterSerializer X → Type 0
  WritesParameters appends s p = TakesAll parameter_pairs s.version gives pairs
      (λ taken. appends s.sink (parts_text parameter_pairs [] true taken) p)

  -- the error of appending the parameters of an iterator to `s`, which writes to this text
  abbrev pub FailsToWriteParameters : ParameterSerializer X → Text → SerializeError → Type 0
  FailsToWriteParameters s text = StopsEarly parameter_pairs s.version gives pairs [] text true

-- the type of serializers of parts in the logic of borrows
abbrev pub parts : RattleType → RattleType → RattleType
parts W K = sequence.the_row W K
