-- What is read as a field is one.
use Rattle.std.proofs.Common.{ℕ, List, [], ◌++◌, refl, append-nil}
use Rattle.sfv_spec.specs.{Events.{TreeEvent, events}, Grammar.{IsItemText, IsFieldText}, Texts.RunOf, Values.RawItem}
use Rattle.sfv_spec.proofs.Marks.{is_space}
use Rattle.sfv_model.specs.{Fields.whole_field_at, Items.item_at}
use Rattle.sfv_model.proofs.Types.{FieldKind, item_field, list_field, dictionary_field, Version}
use Rattle.sfv_model.proofs.sound.Combinators.{Sound-give, Sound-bind, Sound-within, Sound-span, Reads, Goes}
use Rattle.sfv_model.proofs.sound.{Items.Sound-item, Members.{Sound-entry, Sound-keyed}, Separated.Sound-members}
use Rattle.sfv_model.proofs.texts.Joining.{in_turn}

abbrev pub FieldGoes : Version → FieldKind → List ℕ → List TreeEvent → Type 0
FieldGoes version kind = Goes (IsFieldText version kind) (events kind)

spaced : (version : Version) (i : RawItem) (s t z : List ℕ) → RunOf is_space s → IsItemText version i t
    → RunOf is_space z → IsFieldText version item_field i (s ++ (t ++ z))
spaced version i s t z each h each' = in_turn s (t ++ z) each (in_turn t z h each')

Sound-item_field : (version : Version) → Reads (whole_field_at version item_field) (IsFieldText version item_field)
    (FieldGoes version item_field)
unfolding whole_field_at
Sound-item_field version = Sound-span _ _ _ _ _ (λ s each. Sound-bind (IsItemText version) (item_at version) _ _ _ _
    (Sound-within (λ u. s ++ u) (λ es. es) (FieldGoes version item_field) (Sound-item version) (λ v t h. h) (λ u es g.
    ([], (g.0, spaced version g.0 s u [] each g.1 refl, g.2)))) (λ t i h. Sound-span _ _ _ _ _ (λ z each'.
    Sound-give _ _ _ _ (spaced version i s t (z ++ []) each h (rw (append-nil z) each')))))

pub Sound-field : (version : Version) (kind : FieldKind)
    → Reads (whole_field_at version kind) (IsFieldText version kind) (FieldGoes version kind)
unfolding whole_field_at
Sound-field version item_field = Sound-item_field version
Sound-field version list_field = Sound-members _ _ _ (Sound-entry _)
Sound-field version dictionary_field = Sound-members _ _ _ (Sound-keyed _)
