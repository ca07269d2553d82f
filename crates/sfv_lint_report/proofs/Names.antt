-- Names that the registry has are ASCII.
use Rattle.std.proofs.Common.{◌≡◌, ℕ, zero, suc, ◌<◌, List, [], ◌∷◌, Bool, true, refl, inl, inr, arith, ◌&&◌, nat_lt}
use Rattle.std.proofs.Common.{None, IsUtf8, IsAscii}
use Rattle.std.specs.{Char.to_ascii_lowercase, Map.lookup, Str.{str_eq_ignore_ascii_case, str_to_ascii_lowercase}}
use Rattle.std.proofs.lemmas.{Bool.cases_Bool, Grind.common_steps, Slice.Eq.bytes_eq-Decides}
use Rattle.std.proofs.lemmas.Str.{IsUtf8-from_ascii, Ascii.{IsAscii-nil, lowercase_ascii}}
use Rattle.sfv_http_fields.specs.Registry.{registered, registered_type}

abbrev all_ascii : List ℕ → Bool
all_ascii [] = true
all_ascii (b ∷ bytes) = nat_lt b 128 && all_ascii bytes

abbrev all_names_ascii : {X : Type 0} → List (List ℕ × X) → Bool
all_names_ascii [] = true
all_names_ascii (row ∷ rows) = all_ascii row.0 && all_names_ascii rows

small_if_lower : (b : ℕ) → to_ascii_lowercase b < 128 → b < 128
small_if_lower b h = grind (arith, common_steps)

ascii_cons : (b : ℕ) (bytes : List ℕ) → b < 128 → IsAscii bytes → IsAscii (b ∷ bytes)
ascii_cons b bytes h more zero = h
ascii_cons b bytes h more (suc i) = more i

ascii_name : (name row : List ℕ) → str_to_ascii_lowercase name ≡ str_to_ascii_lowercase row → all_ascii row ≡ true
    → IsAscii name
ascii_name [] row same h = IsAscii-nil
ascii_name (b ∷ name) [] same h = absurd (cc)
ascii_name (b ∷ name) (c ∷ row) same h =
    let first : to_ascii_lowercase b ≡ to_ascii_lowercase c = cc in
    let small : c < 128 = grind (arith, common_steps, h) in
    let rest : all_ascii row ≡ true = grind (arith, common_steps, h) in
    let same_rest : str_to_ascii_lowercase name ≡ str_to_ascii_lowercase row = cc in
    ascii_cons b name (small_if_lower b (rw first (lowercase_ascii c small))) (ascii_name name row same_rest rest)

none_named : {X : Type 0} (name : List ℕ) (rows : List (List ℕ × X)) → all_names_ascii rows ≡ true → ¬ (IsUtf8 name)
    → lookup (str_eq_ignore_ascii_case name) rows ≡ None
none_named name [] h none = refl
none_named name (row ∷ rows) h none =
    let small : all_ascii row.0 ≡ true = grind (arith, common_steps, h) in
    let rest : all_names_ascii rows ≡ true = grind (arith, common_steps, h) in
    elim (cases_Bool (str_eq_ignore_ascii_case name row.0)) [
      | inl same ↦ absurd (none (IsUtf8-from_ascii name (ascii_name name row.0
          ((bytes_eq-Decides (str_to_ascii_lowercase name) (str_to_ascii_lowercase row.0)).0 same) small)))
      | inr other ↦ rw other (none_named name rows rest none)
    ]

-- a name that is not UTF-8 is not in the registry
pub unregistered : (name : List ℕ) → ¬ (IsUtf8 name) → registered_type name ≡ None
unregistered name none = none_named name registered refl none
