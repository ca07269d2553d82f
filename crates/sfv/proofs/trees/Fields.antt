-- Whole lists and dictionaries that are built.
use Rattle.std.proofs.Common.{◌≡◌, ℕ, Bool, true, false, List, [], ◌∷◌, ◌++◌, Ok, Err, refl, sym, ap, ◌∙◌, inl, inr}
use Rattle.std.proofs.Common.{subst, ◌⊎◌, Result, OnOk, OnErr, IfOk, IfErr, is_some, cond, not}
use Rattle.std.specs.declared.alloc.Global.{Global}
use Rattle.std.proofs.lemmas.{Bool.cases_Bool, List.map-append, List.Elements.Contains-append_right}
use Rattle.sfv_spec.{specs.Ordered.collapse, proofs.Collapse.collapse-push, proofs.Marks.is_space}
use Rattle.sfv_model.specs.Fields.{members_at, whole_field_at, read_field}
use Rattle.sfv_model.specs.{Members.{member_at, entry_at, keyed_at}, Reader.{Answer, and_then, first, give, span}}
use Rattle.sfv_tree.proofs.Entered.{insert_entry-entered}
use Rattle.sfv.specs.Field.{RawMember, RawField, list_field, dictionary_field, Version, entry, entry_events}
use Rattle.sfv.specs.Field.{keyed_events, events, ordered_member, IsParsedAs, out_of_memory, NeedsMemory, IsParseError}
use Rattle.sfv.specs.{Types.Error, declared.parser.Parser.Parser, declared.parser.cursor.Cursor.Cursor}
use Rattle.sfv.specs.parser.Cursor.{kept, kept_input, kept_version, version, rest, located, MayNeedMemory, IsFaultOf}
use Rattle.sfv.specs.parser.Members.{MemberValue, member_parts, one_member_at, all_members_at, field_of}
use Rattle.sfv.specs.parser.Trees.{Builds, FailsAs, ordered_pairs, ordered_members, with_member}
use Rattle.sfv.proofs.{Memory.first_in, Parsed.parsed, built.Dictionaries.collapse-over}
use Rattle.sfv.proofs.reads.{Delimiters.{after_some, members_after, first_of}, Errors.{fault_bind, kept_reads}}
use Rattle.sfv.proofs.trees.{Errors.{Any, Never, FailsWith, field_fails}, Parts.led_builds}
use Rattle.sfv.proofs.visits.{Fields.whole_read, Loops.{IsFirst, members_loop}, Whole.ending_located}

-- ---- one more member

-- the value of members and one more is the value with one more
pub member_added : (keyed : Bool) (front : List (MemberValue keyed)) (m : MemberValue keyed)
    → ordered_members keyed (front ++ m ∷ []) ≡ with_member keyed (ordered_members keyed front) m
member_added false front m = map-append ordered_member front (m ∷ [])
member_added true front m =
    ap collapse (map-append (λ (m : List ℕ × RawMember). (m.0, ordered_member m.1)) front (m ∷ []))
    ∙ collapse-push (ordered_pairs front) m.0 (ordered_member m.1)
    ∙ sym (insert_entry-entered (collapse (ordered_pairs front)) m.0 (ordered_member m.1))

pub first_member : (keyed : Bool) (start : Cursor) → is_some (first (rest start)) ≡ true
    → IsFirst Any Never (members_loop keyed) start (all_members_at keyed (version start) (rest start)) start
first_member keyed start some =
    (after_some (member_parts keyed) (one_member_at keyed (version start)) (rest start) some, refl)

-- the first member fails, and the members with it
pub begin_fails : (keyed : Bool) (version : Version) (t : List ℕ) → is_some (first t) ≡ true
    → FailsWith (one_member_at keyed version t) (all_members_at keyed version t)
unfolding first_of
begin_fails keyed version t some k q h =
    ap located (after_some (member_parts keyed) (one_member_at keyed version) t some) ∙ fault_bind (one_member_at keyed version) _ t k q h

-- the dictionary without members
pub no_pairs : [] ≡ ordered_members true []
unfolding collapse
no_pairs = refl

-- a list member, with its first event
pub entry_builds : {X Z : Type 0} (view : X → Z) (collapsed : RawMember → Z) (before after : Cursor)
    (r : Result X Error) → Builds view collapsed before after r member_at
    → Builds view collapsed before after r entry_at
unfolding entry_at
entry_builds view collapsed before after r h =
    led_builds view collapsed entry member_at before after r h

-- ---- the whole

-- members that were read up to the end are the field's
members_parsed : (keyed : Bool) (version : Version) (t q : List ℕ) (ms : List (MemberValue keyed))
    (value : RawField (field_of keyed)) → members_at (member_parts keyed) (one_member_at keyed version) t ≡ Ok (ms, q)
    → q ≡ [] → value ≡ ordered_members keyed ms → IsParsedAs version (field_of keyed) t value
unfolding whole_field_at
members_parsed false version t q ms value read end built =
    parsed version list_field t ms value (whole_read version list_field t q ms read end) built
members_parsed true version t q ms value read end built =
    parsed version dictionary_field t ms value (whole_read version dictionary_field t q ms read end)
    (built ∙ collapse-over ordered_member ms)

-- a fault of members is the field's
members_rejected : (keyed : Bool) (version : Version) (t : List ℕ) (e : Error)
    → (e ≡ out_of_memory) ⊎ IsFaultOf t e (members_at (member_parts keyed) (one_member_at keyed version) t)
    → IsParseError version (field_of keyed) t e
unfolding read_field whole_field_at
members_rejected false version t e h = field_fails version list_field t e (members_at entry_events (entry_at version) t)
    (λ k q f. ending_located (events list_field) (members_at entry_events (entry_at version) t) k q f) h
members_rejected true version t e h =
    field_fails version dictionary_field t e (members_at keyed_events (keyed_at version) t)
    (λ k q f. ending_located (events dictionary_field) (members_at keyed_events (keyed_at version) t) k q f) h

-- a byte after the spaces is another one
more_after : (t s q : List ℕ) → span is_space t ≡ Ok (s, q) → is_some (first q) ≡ true → MayNeedMemory list_field t
unfolding span give
more_after [] s q e some =
    let here : List ℕ × List ℕ = ([], []) in
    let there : List ℕ × List ℕ = (s, q) in
    let same : here ≡ there = cc in
    let end : [] ≡ q = ap (λ (p : List ℕ × List ℕ). p.1) same in
    absurd (no_first (ap (λ (q : List ℕ). is_some (first q)) end ∙ some))
  where
    no_first : false ≡ true → ⊥
    no_first h = cc
more_after (c ∷ t) s q e some = elim (cases_Bool (is_space c)) [
  | inl space ↦
      let rest : and_then (span is_space t) (λ cs. give (c ∷ cs)) ≡ Ok (s, q) =
      sym (ap (λ b. cond b (and_then (span is_space t) (λ cs. give (c ∷ cs))) (Ok ([], c ∷ t))) space) ∙ e in
      on (λ s q e some. more_after t s q e some) (span is_space t) refl rest
  | inr other ↦ (c, first_in c t, ap not other)
]
  where
    on : ((s q : List ℕ) → span is_space t ≡ Ok (s, q) → is_some (first q) ≡ true → MayNeedMemory list_field t)
        → (a : Answer (List ℕ)) → span is_space t ≡ a → and_then a (λ cs. give (c ∷ cs)) ≡ Ok (s, q)
        → MayNeedMemory list_field (c ∷ t)
    on again (Ok x) here h =
        let here_is : List ℕ × List ℕ = (c ∷ x.0, x.1) in
        let there : List ℕ × List ℕ = (s, q) in
        let same : here_is ≡ there = cc in
        let end : x.1 ≡ q = ap (λ (p : List ℕ × List ℕ). p.1) same in
        let m = again x.0 x.1 here (ap (λ (q : List ℕ). is_some (first q)) end ∙ some) in
        (m.0, Contains-append_right (c ∷ []) t m.0 m.1, m.2)
    on again (Err f) here h = absurd cc

-- before a member there is a byte that may need memory
pub members_need : (keyed : Bool) (t s q : List ℕ) → span is_space t ≡ Ok (s, q) → is_some (first q) ≡ true
    → MayNeedMemory (field_of keyed) t
members_need true t s q e some = more_after t s q e some
members_need false t s q e some = more_after t s q e some

-- ---- from the start of the input, after its spaces

module _ (keyed : Bool) (start before : Cursor) (k : Parser × Global) (s : List ℕ) (same : kept before ≡ k)
    (whole : rest start ≡ kept_input k) (spaces_first : span is_space (rest start) ≡ Ok (s, rest before)) where
  skipped : span is_space (kept_input k) ≡ Ok (s, rest before)
  skipped = subst (λ (t : List ℕ). span is_space t ≡ Ok (s, rest before)) whole spaces_first

  all_at : members_at (member_parts keyed) (one_member_at keyed (kept_version k)) (kept_input k)
      ≡ all_members_at keyed (kept_version k) (rest before)
  all_at =
      members_after (member_parts keyed) (one_member_at keyed (kept_version k)) (kept_input k) s (rest before) skipped

  pub all_rejected : (e : Error) → FailsAs before e (all_members_at keyed)
      → IsParseError (kept_version k) (field_of keyed) (kept_input k) e
  all_rejected e h = members_rejected keyed (kept_version k) (kept_input k) e (rw all_at
      (subst (λ (k : Parser × Global). (e ≡ out_of_memory)
      ⊎ IsFaultOf (kept_input k) e (all_members_at keyed (kept_version k) (rest before))) same h))

  module _ {X : Type 0} (view : X → RawField (field_of keyed)) (after : Cursor) where
    pub members_read : (r : Result X Error) → OnOk r (rest after ≡ [])
        → Builds view (ordered_members keyed) before after r (all_members_at keyed)
        → IfOk r (λ x. IsParsedAs (kept_version k) (field_of keyed) (kept_input k) (view x))
    members_read (Ok x) end h = members_parsed keyed (kept_version k) (kept_input k) (rest after) h.0 (view x)
        (all_at ∙ kept_reads (all_members_at keyed) (rest before) (kept before) k same ∙ h.1) end h.2
    members_read (Err e) end h = tt

    pub members_fault : (r : Result X Error)
        → Builds view (ordered_members keyed) before after r (all_members_at keyed)
        → IfErr r (IsParseError (kept_version k) (field_of keyed) (kept_input k))
    members_fault (Ok x) h = tt
    members_fault (Err e) h = all_rejected e h

  pub members_memory : {X : Type 0} (r : Result X Error) → OnErr r (is_some (first (rest before)) ≡ true)
      → IfErr r (NeedsMemory (field_of keyed) (kept_input k))
  members_memory (Ok x) some = tt
  members_memory (Err e) some = λ _. members_need keyed (kept_input k) s (rest before) skipped some
