-- A text of a field is read, as that field.
use Rattle.std.proofs.Common.{◌≡◌, ℕ, List, [], ◌∷◌, ◌++◌, Ok, refl, sym, ap, ◌∙◌, append_assoc, append-nil, eqb-true}
use Rattle.sfv_spec.specs.{Grammar.IsFieldText, Texts.RunOf, Values.{RawField, RawItem}}
use Rattle.sfv_spec.proofs.Marks.{space, comma, is_space}
use Rattle.sfv_model.specs.{Fields.whole_field_at, Reader.{Apart, give}}
use Rattle.sfv_model.proofs.Types.{FieldKind, item_field, list_field, dictionary_field, Version}
use Rattle.sfv_model.proofs.complete.Combinators.{Apart-nil, Apart-cons, bind_complete, span_complete}
use Rattle.sfv_model.proofs.complete.Items.{lengthens_item, item_complete, item_no, blank_ends, space_ends}
use Rattle.sfv_model.proofs.complete.Members.{entry_complete, entry_fresh, keyed_complete, keyed_fresh}
use Rattle.sfv_model.proofs.sound.{Combinators.run_head, Members.{Sound-entry, Sound-keyed}, Separated.members_complete}

pub spaces_end : (s q : List ℕ) → RunOf is_space s → Apart lengthens_item q → Apart lengthens_item (s ++ q)
spaces_end [] q each f = f
spaces_end (c ∷ s) q each f = rw (eqb-true c space (run_head is_space c s each)) (space_ends (s ++ q))

-- an item, whatever follows it that is no more of it
pub item_field_complete : (version : Version) (i : RawItem) (t q : List ℕ) (h : IsFieldText version item_field i t)
    → Apart is_space q → Apart lengthens_item (h.second.back ++ q) → whole_field_at version item_field (t ++ q)
    ≡ Ok (i, q)
unfolding whole_field_at give
item_field_complete version i t q h none f =
    let o = h.second in
    let all : t ++ q ≡ h.front ++ (o.front ++ (o.back ++ q)) =
    ap (λ (l : List ℕ). l ++ q) (h.text ∙ ap (λ (l : List ℕ). h.front ++ l) o.text) ∙ simp append_assoc in
    ap (whole_field_at version item_field) all ∙ bind_complete _ _ _ _ _ (span_complete _ _ _ h.first
    (item_no _ _ _ _ _ refl o.first)) ∙ bind_complete _ _ _ _ _ (item_complete _ _ _ _ o.first f)
    ∙ bind_complete _ _ _ _ _ (span_complete _ _ _ o.second none)

pub comma_ends : (q : List ℕ) → Apart lengthens_item (comma ∷ q)
comma_ends q = Apart-cons lengthens_item comma q refl

pub field_complete : (version : Version) (kind : FieldKind) (raw : RawField kind) (t : List ℕ)
    → IsFieldText version kind raw t → whole_field_at version kind t ≡ Ok (raw, [])
unfolding whole_field_at
field_complete version item_field i t h = ap (whole_field_at version item_field) (sym (append-nil t))
    ∙ item_field_complete _ _ _ _ h (Apart-nil _) (spaces_end h.second.back _ h.second.second (Apart-nil _))
field_complete version list_field ms t h = members_complete _ _ _ (Apart lengthens_item) (entry_complete _)
    (entry_fresh _) blank_ends comma_ends (Apart-nil _) (Sound-entry _) _ _ h
field_complete version dictionary_field ms t h = members_complete _ _ _ (Apart lengthens_item) (keyed_complete _)
    (keyed_fresh _) blank_ends comma_ends (Apart-nil _) (Sound-keyed _) _ _ h
