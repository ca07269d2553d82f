-- What stands after a field with a member, and is no more of it.
use Rattle.std.proofs.Common.{◌≡◌, ℕ, false, eqb, List, [], ◌∷◌, ◌++◌, length, drop, Ok, Err, refl, sym, ap, ◌∙◌}
use Rattle.std.proofs.Common.{append_assoc, arith, append-nil, drop_at, codes, ◌≢◌}
use Rattle.sfv_spec.specs.Events.{TreeEvent, events, entry_events, keyed_events}
use Rattle.sfv_spec.specs.{Grammar.{IsFieldText, IsAccepted}, Texts.RunOf, Values.{RawField, RawItem, HasMember}}
use Rattle.sfv_spec.proofs.Marks.{comma, right_parenthesis, is_space, is_space_or_tab}
use Rattle.sfv_model.specs.{Bare.{token_at, bare_at}, Claims.CommaRow, Commas.HasManyMembers}
use Rattle.sfv_model.specs.Fields.{comma_at, next_at, members_at, whole_field_at, ending, read_field}
use Rattle.sfv_model.specs.{Items.{key_at, item_at}, Judgements.IsFault, Members.{member_at, entry_at, keyed_at}}
use Rattle.sfv_model.specs.Reader.{Fault, Reader, Apart, at_reach, by_rule, after_events, at_start, give, fail, back}
use Rattle.sfv_model.specs.Reader.{span, branch, ahead, bind, led}
use Rattle.sfv_model.proofs.Types.{FieldKind, item_field, list_field, dictionary_field, Version, TrailingComma}
use Rattle.sfv_model.proofs.Types.{TrailingCharactersAfterMember}
use Rattle.sfv_model.proofs.complete.Combinators.{Apart-nil, Apart-cons, branch_take, ahead_past, ahead_take, ahead_any}
use Rattle.sfv_model.proofs.complete.Combinators.{bind_complete, span_complete}
use Rattle.sfv_model.proofs.complete.Fields.{spaces_end, comma_ends, item_field_complete, field_complete}
use Rattle.sfv_model.proofs.complete.Items.{lengthens_item, blank_ends}
use Rattle.sfv_model.proofs.complete.Members.{entry_complete, entry_fresh, keyed_complete, keyed_fresh}
use Rattle.sfv_model.proofs.faults.PiecesToFault.{bind_met}
use Rattle.sfv_model.proofs.sound.{Members.{Sound-entry, Sound-keyed}, Separated.members_met}

-- a type of field is a list or a dictionary unless it is an item
pub not_item : (kind : FieldKind) → HasManyMembers kind → kind ≢ item_field
not_item item_field many = absurd many
not_item list_field many = λ e. cc
not_item dictionary_field many = λ e. cc

pub has_many : (kind : FieldKind) → kind ≢ item_field → HasManyMembers kind
has_many item_field other = absurd (other refl)
has_many list_field other = tt
has_many dictionary_field other = tt

-- blanks, a comma, and the end
comma_met : {A : Type 0} (one : Reader A) (w z : List ℕ) → RunOf is_space_or_tab w → RunOf is_space_or_tab z
    → next_at one (z ++ comma ∷ w) ≡ Err (by_rule TrailingComma (comma ∷ w))
unfolding next_at comma_at back give
comma_met one w z each' each =
    let end : span is_space_or_tab w ≡ Ok (w, []) = ap (span is_space_or_tab) (sym (append-nil w))
    ∙ span_complete _ _ _ each' (Apart-nil _) in
    bind_complete _ _ _ _ _ (span_complete _ _ _ each (Apart-cons _ _ _ refl)) ∙ ahead_any _ _ _ (omega arith)
    ∙ ahead_take _ _ _ _ _ refl ∙ bind_met _ _ _ _ (ap (at_start TrailingComma (comma ∷ w)) (branch_take _ _ _ _ _ refl
    ∙ bind_complete _ _ _ _ _ end ∙ ahead_past _ _ _ _ (Apart-nil _)))

-- blanks, and another byte
pub byte_met : {A : Type 0} (one : Reader A) (c : ℕ) (w z : List ℕ) → is_space_or_tab c ≡ false → eqb c comma ≡ false
    → RunOf is_space_or_tab z → next_at one (z ++ c ∷ w) ≡ Err (at_reach TrailingCharactersAfterMember (c ∷ w))
unfolding next_at fail
byte_met one c w z none no_comma each = bind_complete _ _ _ _ _ (span_complete _ _ _ each (Apart-cons _ _ _ none))
    ∙ ahead_any _ _ _ (omega arith) ∙ ahead_past _ _ _ _ (Apart-cons _ _ _ no_comma)

-- a fault that comes after any member is the field's
pub met : (version : Version) (kind : FieldKind) (raw : RawField kind) (t q : List ℕ) (e : Fault) → HasManyMembers kind
    → HasMember kind raw → IsFieldText version kind raw t
    → ((A : Type 0) (one : Reader A) (z : List ℕ) → RunOf is_space_or_tab z → next_at one (z ++ q) ≡ Err e)
    → Apart lengthens_item q → whole_field_at version kind (t ++ q) ≡ Err (after_events (events kind raw) e)
unfolding whole_field_at
met version item_field raw t q e many has h after f = absurd many
met version list_field [] t q e many has h after f = absurd (let none = has.2 in cc)
met version list_field (m ∷ ms) t q e many has h after f = members_met _ _ _ (Apart lengthens_item) (entry_complete _)
    (entry_fresh _) blank_ends comma_ends (Apart-nil _) (Sound-entry _) _ _ t q _ h (after _ (entry_at version)
    h.second.back h.second.second) f
met version dictionary_field [] t q e many has h after f = absurd (let none = has.2 in cc)
met version dictionary_field (m ∷ ms) t q e many has h after f = members_met _ _ _ (Apart lengthens_item)
    (keyed_complete _) (keyed_fresh _) blank_ends comma_ends (Apart-nil _) (Sound-keyed _) _ _ t q _ h (after _
    (keyed_at version) h.second.back h.second.second) f

-- a comma and blanks at the end
pub comma_after : (version : Version) (kind : FieldKind) (raw : RawField kind) (t w : List ℕ) → HasManyMembers kind
    → HasMember kind raw → IsFieldText version kind raw t → RunOf is_space_or_tab w
    → whole_field_at version kind (t ++ comma ∷ w)
    ≡ Err (after_events (events kind raw) (by_rule TrailingComma (comma ∷ w)))
comma_after version kind raw t w many has h each = met _ _ _ _ _ _ many has h
    (λ A one z blank. comma_met _ _ _ each blank) (comma_ends _)

-- a byte that is none of the field, nor a blank or a comma
pub byte_after : (version : Version) (kind : FieldKind) (raw : RawField kind) (t w : List ℕ) (c : ℕ)
    → HasManyMembers kind → HasMember kind raw → IsFieldText version kind raw t → is_space_or_tab c ≡ false
    → eqb c comma ≡ false → lengthens_item c ≡ false
    → whole_field_at version kind (t ++ c ∷ w)
    ≡ Err (after_events (events kind raw) (at_reach TrailingCharactersAfterMember (c ∷ w)))
byte_after version kind raw t w c many has h none no_comma no_more = met _ _ _ _ _ _ many has h (λ A one z blank.
    byte_met _ _ _ _ none no_comma blank) (Apart-cons _ _ _ no_more)

-- ---- a parenthesis

-- no member begins with it
none_begun : {A : Type 0} (parts : A → List TreeEvent) (one : Reader A) (s q : List ℕ) → RunOf is_space s
    → IsFault (one (right_parenthesis ∷ q)) → IsFault (members_at parts one (s ++ right_parenthesis ∷ q))
unfolding members_at
none_begun parts one s q each f = (
  f.0,
  bind_complete _ _ _ _ _ (span_complete is_space s (right_parenthesis ∷ q) each
      (Apart-cons is_space right_parenthesis q refl)) ∙ ahead_any _ _ _ (omega arith) ∙ bind_met _ _ _ _ f.1,
)

no_entry : (version : Version) (q : List ℕ) → IsFault (entry_at version (right_parenthesis ∷ q))
unfolding entry_at member_at item_at bare_at token_at branch ahead fail bind led
no_entry version q = (_, refl)

no_keyed : (version : Version) (q : List ℕ) → IsFault (keyed_at version (right_parenthesis ∷ q))
unfolding keyed_at key_at branch fail bind
no_keyed version q = (_, refl)

-- after a whole field it stands nowhere
bracket_after : (version : Version) (kind : FieldKind) (raw other : RawField kind) (t : List ℕ)
    → IsFieldText version kind raw t → whole_field_at version kind (t ++ codes ")") ≡ Ok (other, []) → ⊥
unfolding whole_field_at
bracket_after version item_field raw other t h i =
    let read = item_field_complete version raw t (codes ")") h (Apart-cons is_space right_parenthesis [] refl)
    (spaces_end h.second.back (codes ")") h.second.second (Apart-cons lengthens_item right_parenthesis [] refl)) in
    let pairs : ◌≡◌ {A = RawItem × List ℕ} (raw, codes ")") (other, []) = cc in
    let rest : codes ")" ≡ [] = ap (λ (x : RawItem × List ℕ). x.1) pairs in cc
bracket_after version list_field [] other t h i =
    let m = none_begun entry_events (entry_at version) t [] h (no_entry version []) in let f = m.1 in cc
bracket_after version list_field (m ∷ ms) other t h i =
    let f = byte_after version list_field (m ∷ ms) t [] right_parenthesis tt (m, ms, refl) h refl refl refl in cc
bracket_after version dictionary_field [] other t h i =
    let m = none_begun keyed_events (keyed_at version) t [] h (no_keyed version []) in let f = m.1 in cc
bracket_after version dictionary_field (m ∷ ms) other t h i =
    let f = byte_after version dictionary_field (m ∷ ms) t [] right_parenthesis tt (m, ms, refl) h refl refl refl in cc

pub not_bracketed : (version : Version) (kind : FieldKind) (t : List ℕ) → IsAccepted version kind t
    → ¬ IsAccepted version kind (t ++ codes ")")
not_bracketed version kind t a b = bracket_after version kind a.0 b.0 t a.1 (field_complete version kind b.0 _ b.1)

pub comma_row : CommaRow
unfolding read_field
comma_row version kind t index h =
    let text : t ≡ h.before ++ comma ∷ h.whitespace = h.text ∙ simp append_assoc in
    let left : drop index t ≡ comma ∷ h.whitespace = ap (λ (n : ℕ). drop n t) h.here
    ∙ ap (drop (length h.before)) text ∙ drop_at h.before (comma ∷ h.whitespace) _ refl in (
      h.raw,
      ap (λ (l : List ℕ). ending (events kind) (whole_field_at version kind l)) text ∙ ap (ending (events kind))
          (comma_after _ _ _ _ _ h.many h.member h.accepted h.blank) ∙ rw (left, append-nil) refl,
    )
