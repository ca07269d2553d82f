-- When a reading runs out of memory.
use Rattle.std.{proofs.Common.{◌≡◌, ℕ, List, Result, Ok, Err, subst, inl, inr, ◌⊎◌, IfErr}, specs.Prelude.⊤}
use Rattle.sfv_base.specs.declared.error.{Error.Error, ParseError.ParseError, ParseError.TheVariants.Visitor}
use Rattle.sfv.proofs.Callers.{FailsIn, HasVisitorError, accepted_or_not}
use Rattle.sfv_readers.specs.Field.{TreeEvent, events, FieldKind, item_field, Version, ErrorNeedsMark, NeedsMarkUnless}

module _ {S E : Type 0} (may_fail : Type 0) (takes : S → TreeEvent → S → Type 0) (from : S) where
  -- an error at some event, and none at the end
  abbrev MayFail : S → TreeEvent → E → Type 0
  MayFail s e error = may_fail

  abbrev Never : S → E → Type 0
  Never s error = ⊥

  at_an_event : (es : List TreeEvent) (may_finish : Type 0) (error : E)
      → FailsIn takes MayFail Never from es may_finish error → may_fail
  at_an_event es may_finish error (inl h) = h.6
  at_an_event es may_finish error (inr h) = absurd h.3

  somewhere : (version : Version) (kind : FieldKind) (t : List ℕ) (error : E)
      → HasVisitorError takes MayFail Never version kind t from (Visitor error) → may_fail
  somewhere version kind t error h = elim (accepted_or_not version kind t) [
    | inl a ↦ at_an_event (events kind a.0) ⊤ error (h.0 a.0 a.1)
    | inr n ↦ let some = (h.1 n).0 in at_an_event (events kind some.0) (kind ≡ item_field) error some.2
  ]

  -- a visitor that may fail at an event only, and then only under this condition
  pub reader_fails : {O : Type 0} (version : Version) (kind : FieldKind) (t : List ℕ) (r : Result O (ParseError E))
      (error : E) → r ≡ Err (Visitor error) → IfErr r (HasVisitorError takes MayFail Never version kind t from) → may_fail
  reader_fails {O} version kind t r error is h = somewhere version kind t error
      (subst (λ (r : Result O (ParseError E)). IfErr r (HasVisitorError takes MayFail Never version kind t from)) is h)

-- a reader that never runs out of memory
pub mark_needed : (t : List ℕ) (e : Error) → NeedsMarkUnless ⊥ t e → ErrorNeedsMark t e
mark_needed t e h = λ same. elim (h same) [
  | inl mark ↦ mark
  | inr none ↦ absurd none
]

pub marks_needed : {T : Type 0} (r : Result T Error) (t : List ℕ) → IfErr r (NeedsMarkUnless ⊥ t) → IfErr r (ErrorNeedsMark t)
marks_needed (Ok x) t h = tt
marks_needed (Err e) t h = mark_needed t e h

-- a reader of lists that doesn't, nor the one of its items
pub mark_needed_of_list : (t : List ℕ) (e : Error) → NeedsMarkUnless (⊥ ⊎ ⊥) t e → ErrorNeedsMark t e
mark_needed_of_list t e h = λ same. elim (h same) [
  | inl mark ↦ mark
  | inr (inl none) ↦ absurd none
  | inr (inr none) ↦ absurd none
]
