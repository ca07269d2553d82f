-- The canonical text of a field is at most 8/5 as long as any text of it.
use Rattle.std.proofs.Common.{◌≡◌, ℕ, zero, suc, ◌<◌, ◌≤◌, ◌+◌, ◌-◌, ◌*◌, ◌/◌, ◌%◌, ◌^◌, List, [], ◌∷◌, ◌++◌, length}
use Rattle.std.proofs.Common.{map, refl, sym, ◌∙◌, ap, Bool, true, false, inl, inr, arith, ℤ, pos, not, codes, flat_map}
use Rattle.std.proofs.Common.{bytes_eq, filter, Option, Some, None, unwrap_or, decimal as decimal_digits, true≢false}
use Rattle.std.{proofs.Common.length-append, specs.Fmt.signed_decimal, proofs.lemmas.Bool.cond_both}
use Rattle.std.proofs.lemmas.{Bool.Decides.nat_tests, Fmt.length-decimal-le, List.{length-map, length-replicate}}
use Rattle.std.proofs.lemmas.{List.Elements.filter-append, Slice.Eq.bytes_eq-Decides, Str.Parse.digits_value_short}
use Rattle.sfv_spec.specs.Base64.{IsBase64Text, base64_text, bits}
use Rattle.sfv_spec.specs.Canonical.{fraction_digits, decimal_text, string_piece, display_piece, bare_text, value_text}
use Rattle.sfv_spec.specs.Canonical.{parameters_text, item_text, inner_list_text, member_text, dictionary_member_text}
use Rattle.sfv_spec.specs.Canonical.{canonical}
use Rattle.sfv_spec.specs.Grammar.{IsBareText, IsValueText, IsKeyText, IsParametersText, IsItemText, Comma}
use Rattle.sfv_spec.specs.Grammar.{AreInnerItemsText, IsInnerListText, IsMemberText, IsMemberValueText}
use Rattle.sfv_spec.specs.Grammar.{IsDictionaryMemberText, AreMembersText, IsFieldText}
use Rattle.sfv_spec.specs.Numbers.{AreDigits, place_value, signed, text_if, IsIntegerText, IsDecimalText}
use Rattle.sfv_spec.specs.Ordered.{last_of, without, collapse, ordered_item, ordered_member, ordered}
use Rattle.sfv_spec.specs.{Statements.LengthBound, Strings.{IsStringPiece, IsDisplayPiece}}
use Rattle.sfv_spec.specs.Texts.{Exactly, ◌⨾◌, IsJoining, IsSeparated, joined}
use Rattle.sfv_spec.specs.Values.{BareValue, integer, decimal, string, token, byte_sequence, boolean, date}
use Rattle.sfv_spec.specs.Values.{display_string, RawParameters, RawItem, RawInnerList, RawMember, RawField, item}
use Rattle.sfv_spec.specs.{Values.inner_list, declared.field_kind.FieldKind.FieldKind}
use Rattle.sfv_spec.specs.declared.field_kind.FieldKind.TheVariants.{Item as item_field, List as list_field}
use Rattle.sfv_spec.specs.declared.field_kind.FieldKind.TheVariants.{Dictionary as dictionary_field}
use Rattle.sfv_spec.specs.declared.version.Version.{Version}
use Rattle.sfv_spec.proofs.{Collapse.last_of-collapse, Last.last_of-split, Marks.{IsParameterText, SomeSpaces}}
use Rattle.sfv_spec.proofs.{Settled.joining-cons, Valid.fraction_below, Written.{numerals, not_negative}}

-- ---- numbers

-- a number has no more digits than a text of it
digits_len : (ds : List ℕ) → AreDigits 1 15 ds → length (decimal_digits (place_value ds)) ≤ length ds
digits_len ds h =
    let below : place_value ds < 10 ^ length ds = digits_value_short numerals ds (length ds) h.2 (omega arith) in
    let small : place_value ds < 10 ^ 15 = digits_value_short numerals ds 15 h.2 h.1 in
    length-decimal-le (length ds) (place_value ds) (omega (arith, h.0)) below (omega (arith, small))

signed_len : (b : Bool) (n : ℕ)
    → length (signed_decimal (signed b n)) ≤ length (text_if b (codes "-")) + length (decimal_digits n)
signed_len true zero = omega arith
signed_len true (suc n) = omega arith
signed_len false n = omega arith

integer_len : (z : ℤ) (t : List ℕ) → IsIntegerText z t → (length (signed_decimal z) ≤ length t) × (0 < length t)
integer_len z t h =
    let d = digits_len h.digits h.counted in
    let s = signed_len h.negative (place_value h.digits) in
    let l : length t ≡ length (text_if h.negative (codes "-")) + length h.digits =
    ap (length {A = ℕ}) h.text ∙ length-append _ h.digits in
    let k : length (signed_decimal z) ≤ length t = rw h.value (omega (arith, d, s, l)) in
    (k, omega (arith, h.counted.0, l))

-- ---- byte sequences

length-bits : (k n : ℕ) → length (bits k n) ≡ k
unfolding bits
length-bits zero n = refl
length-bits (suc k) n = ap suc (length-bits k n)

pub length-all_bits : (k : ℕ) (ns : List ℕ) → length (flat_map (bits k) ns) ≡ k * length ns
length-all_bits k [] = omega arith
length-all_bits k (n ∷ ns) = omega (arith, length-append {A = Bool}, length-bits k n, length-all_bits k ns)

-- how long a text in Base64 is
pub text_len : (bytes : List ℕ) → length (base64_text bytes) ≡ (length bytes + 2) / 3 * 4
unfolding base64_text
text_len [] = refl
text_len (a ∷ []) = refl
text_len (a ∷ b ∷ []) = refl
text_len (a ∷ b ∷ c ∷ rest) = omega (arith, text_len rest)

base64_len : (bytes t : List ℕ) → IsBase64Text bytes t → 5 * length (base64_text bytes) ≤ 8 * length t + 4
base64_len bytes t h =
    let total : 6 * length h.values ≡ 8 * length bytes + length h.spare =
    sym (length-all_bits 6 h.values) ∙ ap (length {A = Bool}) h.same_bits ∙ simp (length-append, length-all_bits) in
    let l : length t ≡ length h.values + h.padding =
    ap (length {A = ℕ}) h.text ∙ simp (length-append, length-map, length-replicate) in
    rw (text_len bytes) (omega (arith, total, l))

-- ---- texts in pieces

parts_len : {P Q : List ℕ → Type 0} {t : List ℕ} (h : (P ⨾ Q) t) → length t ≡ length h.front + length h.back
parts_len h = ap (length {A = ℕ}) h.text ∙ length-append h.front h.back

joining_len : {A : Type 0} {P : A → List ℕ → Type 0} (f : A → List ℕ)
    → ((x : A) (t : List ℕ) → P x t → 5 * length (f x) ≤ 8 * length t) → (xs : List A) (t : List ℕ) → IsJoining P xs t
    → 5 * length (flat_map f xs) ≤ 8 * length t
joining_len f each [] t h = omega arith
joining_len f each (x ∷ xs) t h =
    let j = joining-cons h in
    let rest = joining_len f each xs j.back j.second in
    omega (arith, each x j.front j.first, rest, parts_len j, length-append {A = ℕ})

string_piece_len : (c : ℕ) (t : List ℕ) → IsStringPiece c t → length (string_piece c) ≤ length t
string_piece_len c t (inl k) = rw k.1 (grind (arith, k.0))
string_piece_len c t (inr k) = rw k.1 (grind (arith, k.0))

display_piece_len : (c : ℕ) (t : List ℕ) → IsDisplayPiece c t → length (display_piece c) ≤ length t
display_piece_len c t (inl k) = rw (k.1, k.0) (omega arith)
display_piece_len c t (inr k) = rw k.4 (grind (arith, nat_tests))

-- a fraction has at most three digits, fewer if the last are zero
fraction_len : (ds : List ℕ) → AreDigits 1 3 ds
    → length (fraction_digits (place_value ds * 10 ^ (3 - length ds))) ≤ length ds
fraction_len [] h = absurd (omega (arith, h.0))
fraction_len (a ∷ []) h = grind (arith, nat_tests)
fraction_len (a ∷ b ∷ []) h = grind (arith, nat_tests)
fraction_len (a ∷ b ∷ c ∷ ds) h = grind (arith, nat_tests)

positive_len : (n : ℕ) → length (decimal_text (pos n))
    ≤ length (decimal_digits (n / 1000)) + 1 + length (fraction_digits (n % 1000))
positive_len n = rw (not_negative n) (omega (arith, length-append {A = ℕ}))

thousandths_len : (b : Bool) (n : ℕ) → length (decimal_text (signed b n))
    ≤ length (text_if b (codes "-")) + length (decimal_digits (n / 1000)) + 1 + length (fraction_digits (n % 1000))
thousandths_len true zero = omega (arith, positive_len 0)
thousandths_len true (suc n) = simp length-append (omega arith)
thousandths_len false n = omega (arith, positive_len n)

decimal_len : (z : ℤ) (t : List ℕ) → IsDecimalText z t → (length (decimal_text z) ≤ length t) × (0 < length t)
decimal_len z t h =
    let f = place_value h.fraction * 10 ^ (3 - length h.fraction) in
    let n = place_value h.whole * 1000 + f in
    let below : f < 1000 = fraction_below h.fraction h.counted.1 in
    let w : n / 1000 ≡ place_value h.whole = omega (arith, below) in
    let r : n % 1000 ≡ f = omega (arith, below) in
    let d = digits_len h.whole (h.counted.0.0, omega (arith, h.counted.0.1), h.counted.0.2) in
    let g = fraction_len h.fraction h.counted.1 in
    let s = thousandths_len h.negative n in
    let m : length (decimal_text (signed h.negative n)) ≤ length (text_if h.negative (codes "-"))
    + length (decimal_digits (place_value h.whole)) + 1 + length (fraction_digits f) = rw (w, r) at s in
    let l = simp length-append at (ap (length {A = ℕ}) h.text) in
    let k : length (decimal_text z) ≤ length t = rw h.value (omega (arith, d, g, m, l)) in
    (k, omega (arith, l))

-- ---- bare items

one_len : (mark : List ℕ) {t : List ℕ} → Exactly mark t → length t ≡ length mark
one_len mark h = ap (length {A = ℕ}) h

quoted_len : (mark : List ℕ) {end : ℕ} {P : List ℕ → Type 0} (t : List ℕ)
    (h : (Exactly mark ⨾ P ⨾ Exactly (end ∷ [])) t) → length t ≡ length mark + length h.second.front + 1
quoted_len mark t h =
    omega (arith, parts_len h, parts_len h.second, one_len mark h.first, one_len (_ ∷ []) h.second.second)

bare_len : (version : Version) (b : BareValue) (t : List ℕ) → IsBareText version b t
    → 5 * length (bare_text b) + 2 ≤ 8 * length t
bare_len version (integer z) t h = let l = integer_len z t h in omega (arith, l.0, l.1)
bare_len version (decimal z) t h = let l = decimal_len z t h in omega (arith, l.0, l.1)
bare_len version (string s) t h =
    let k = joining_len string_piece (λ c u p. omega (arith, string_piece_len c u p)) s h.second.front h.second.first in
    simp length-append (omega (arith, k, quoted_len (codes "\"") t h))
bare_len version (token []) t h = absurd (true≢false (sym h.0))
bare_len version (token (c ∷ cs)) t h = rw h.1 (omega arith)
bare_len version (byte_sequence s) t h =
    simp length-append (omega (arith, base64_len s h.second.front h.second.first, quoted_len (codes ":") t h))
bare_len version (boolean true) t h = rw h (omega arith)
bare_len version (boolean false) t h = rw h (omega arith)
bare_len version (date z) t h =
    let l = integer_len z h.1.back h.1.second in
    omega (arith, l.0, l.1, parts_len h.1, one_len (codes "@") h.1.first)
bare_len version (display_string s) t h =
    let k = joining_len display_piece (λ c u p. omega (arith, display_piece_len c u p)) s h.1.second.front h.1.second.first.0 in
    simp length-append (omega (arith, k, quoted_len (codes "%\"") t h.1))

-- ---- parameters, items and members

value_short : (b : BareValue) → length (value_text b) ≤ 1 + length (bare_text b)
value_short (boolean true) = omega arith
value_short b = omega arith

value_len : (version : Version) (b : BareValue) (t : List ℕ) → IsValueText version b t
    → 5 * length (value_text b) ≤ 8 * length t
value_len version b t (inl h) = rw h.0 (omega arith)
value_len version b t (inr h) = omega (
  arith,
  value_short b,
  bare_len version b h.back h.second,
  parts_len h,
  one_len (codes "=") h.first,
)

parameter_len : (version : Version) (p : List ℕ × BareValue) (t : List ℕ) → IsParameterText version p t
    → 5 * length (codes ";" ++ p.0 ++ value_text p.1) ≤ 8 * length t
parameter_len version p t h = simp length-append (omega (
  arith,
  parts_len h,
  one_len (codes ";") h.first,
  parts_len h.second,
  parts_len h.second.second,
  one_len p.0 h.second.second.first.1,
  value_len version p.1 h.second.second.back h.second.second.second,
))

parameters_len : (version : Version) (ps : RawParameters) (t : List ℕ) → IsParametersText version ps t
    → 5 * length (parameters_text ps) ≤ 8 * length t
parameters_len version = joining_len (λ p. codes ";" ++ p.0 ++ value_text p.1) (parameter_len version)

item_len : (version : Version) (i : RawItem) (t : List ℕ) → IsItemText version i t
    → 5 * length (item_text i) + 2 ≤ 8 * length t
item_len version i t h = omega (
  arith,
  bare_len version i.bare h.front h.first,
  parameters_len version i.parameters h.back h.second,
  parts_len h,
  length-append {A = ℕ},
)

joined_len : {A : Type 0} (separator : List ℕ) (f : A → List ℕ) (x : A) (xs : List A)
    → length (joined separator (map f (x ∷ xs))) ≡ length (f x) + length (flat_map (λ y. separator ++ f y) xs)
joined_len separator f x [] = omega arith
joined_len separator f x (y ∷ ys) = omega (arith, joined_len separator f y ys, length-append {A = ℕ})

separated_len : {A : Type 0} {S : List ℕ → Type 0} {P : A → List ℕ → Type 0} (separator : List ℕ) (f : A → List ℕ)
    → length separator ≤ 2 → ((u : List ℕ) → S u → 1 ≤ length u)
    → ((x : A) (t : List ℕ) → P x t → 5 * length (f x) + 2 ≤ 8 * length t) → (x : A) (xs : List A) (t : List ℕ)
    → IsSeparated S P (x ∷ xs) t → 5 * length (joined separator (map f (x ∷ xs))) + 2 ≤ 8 * length t
separated_len separator f short some each x xs t h = omega (
  arith,
  joined_len separator f x xs,
  each x h.front h.first,
  joining_len (λ y. separator ++ f y) (λ y u k. omega (
    arith,
    short,
    some k.front k.first,
    each y k.back k.second,
    parts_len k,
    length-append {A = ℕ},
  )) xs h.back h.second,
  parts_len h,
)

spaces_len : (u : List ℕ) → SomeSpaces u → 1 ≤ length u
spaces_len u h = omega (arith, parts_len h, one_len (codes " ") h.first)

comma_len : (u : List ℕ) → Comma u → 1 ≤ length u
comma_len u h = omega (arith, parts_len h, parts_len h.second, one_len (codes ",") h.second.first)

inner_items_len : (version : Version) (is : List RawItem) (t : List ℕ) → AreInnerItemsText version is t
    → 5 * length (joined (codes " ") (map item_text is)) ≤ 8 * length t
inner_items_len version [] t h = omega arith
inner_items_len version (i ∷ is) t h = omega (
  arith,
  separated_len (codes " ") item_text (omega arith) spaces_len (item_len version) i is h.front h.first,
  parts_len h,
)

inner_list_len : (version : Version) (l : RawInnerList) (t : List ℕ) → IsInnerListText version l t
    → 5 * length (inner_list_text l) + 2 ≤ 8 * length t
inner_list_len version l t h =
    let k = h.second.second in
    simp length-append (omega (
      arith,
      parts_len h,
      one_len (codes "(") h.first,
      parts_len h.second,
      parts_len k,
      inner_items_len version l.items k.front k.first,
      parts_len k.second,
      one_len (codes ")") k.second.first,
      parameters_len version l.parameters k.second.back k.second.second,
    ))

member_len : (version : Version) (m : RawMember) (t : List ℕ) → IsMemberText version m t
    → 5 * length (member_text m) + 2 ≤ 8 * length t
member_len version (item i) t h = item_len version i t h
member_len version (inner_list l) t h = inner_list_len version l t h

key_len : (key t : List ℕ) → IsKeyText key t → (length t ≡ length key) × (0 < length key)
key_len [] t h = absurd (true≢false (sym h.0))
key_len (c ∷ cs) t h = (one_len (c ∷ cs) h.1, omega arith)

-- after a key, the text of a member begins with at most one byte more
entry_short : (key : List ℕ) (m : RawMember)
    → length (dictionary_member_text (key, m)) ≤ length key + 1 + length (member_text m)
entry_short key (item i) = simp length-append (omega (arith, value_short i.bare))
entry_short key (inner_list l) = simp length-append (omega arith)

entry_len : (version : Version) (m : List ℕ × RawMember) (t : List ℕ) → IsDictionaryMemberText version m t
    → 5 * length (dictionary_member_text m) + 2 ≤ 8 * length t
entry_len version m t h = go m.1 h.back h.second (parts_len h) (key_len m.0 h.front h.first)
  where
    go : (x : RawMember) (u : List ℕ) → IsMemberValueText version x u → length t ≡ length h.front + length u
        → (length h.front ≡ length m.0) × (0 < length m.0)
        → 5 * length (dictionary_member_text (m.0, x)) + 2 ≤ 8 * length t
    go x u (inl k) l key = omega (
      arith,
      entry_short m.0 x,
      member_len version x k.back k.second,
      parts_len k,
      one_len (codes "=") k.first,
      l,
      key.0,
    )
    go x u (inr k) l key =
        rw k.1 (omega (arith, parameters_len version k.0 u k.2, l, key.0, key.1, length-append {A = ℕ}))

members_len : {A : Type 0} {P : A → List ℕ → Type 0} (f : A → List ℕ)
    → ((x : A) (t : List ℕ) → P x t → 5 * length (f x) + 2 ≤ 8 * length t) → (xs : List A) (t : List ℕ)
    → AreMembersText P xs t → 5 * length (joined (codes ", ") (map f xs)) ≤ 8 * length t
members_len f each [] t h = omega arith
members_len f each (x ∷ xs) t h = omega (
  arith,
  separated_len (codes ", ") f (omega arith) comma_len each x xs h.second.front h.second.first,
  parts_len h,
  parts_len h.second,
)

field_len : (version : Version) (kind : FieldKind) (raw : RawField kind) (t : List ℕ) → IsFieldText version kind raw t
    → 5 * length (canonical kind raw) ≤ 8 * length t
field_len version item_field i t h =
    omega (arith, item_len version i h.second.front h.second.first, parts_len h, parts_len h.second)
field_len version list_field ms t h = members_len member_text (member_len version) ms t h
field_len version dictionary_field ms t h = members_len dictionary_member_text (entry_len version) ms t h

-- ---- repeated keys

abbrev total : {A : Type 0} → (A → ℕ) → List A → ℕ
total w [] = 0
total w (x ∷ xs) = w x + total w xs

flat_len : {A : Type 0} (f : A → List ℕ) (xs : List A) → length (flat_map f xs) ≡ total (λ x. length (f x)) xs
flat_len f [] = refl
flat_len f (x ∷ xs) = omega (arith, flat_len f xs, length-append {A = ℕ})

-- the total of two lists in a row is the sum of both
total-append : {A : Type 0} (w : A → ℕ) (xs ys : List A) → total w (xs ++ ys) ≡ total w xs + total w ys
total-append w [] ys = omega arith
total-append w (x ∷ xs) ys = omega (arith, total-append w xs ys)

filter_len : {A : Type 0} (w : A → ℕ) (test : A → Bool) (xs : List A) → total w (filter test xs) ≤ total w xs
filter_len w test [] = omega arith
filter_len w test (x ∷ xs) =
    let rest = filter_len w test xs in
    cond_both (test x) (x ∷ filter test xs) (filter test xs) (λ ys. total w ys ≤ w x + total w xs) (λ _. omega arith)
    (λ _. omega arith)

-- the last pair of a key, and the pairs of other keys
present_len : {A : Type 0} (w : List ℕ × A → ℕ) (k : List ℕ) (v : A) (es : List (List ℕ × A)) → last_of k es ≡ Some v
    → w (k, v) + total w (without k es) ≤ total w es
present_len w k v es h =
    let l = last_of-split k v es h in
    let here = (bytes_eq-Decides k k).1 refl in
    rw l.split (simp (filter-append, total-append, here) (omega (
      arith,
      filter_len w (λ p. not (bytes_eq k p.0)) l.before,
      filter_len w (λ p. not (bytes_eq k p.0)) l.after,
    )))

collapse_len : {A : Type 0} (w : List ℕ × A → ℕ) (ps : List (List ℕ × A)) → total w (collapse ps) ≤ total w ps
unfolding collapse
collapse_len w [] = omega arith
collapse_len {A} w ((k, v) ∷ ps) = go (last_of k ps) refl (collapse_len w ps)
  where
    go : (o : Option A) → last_of k ps ≡ o → total w (collapse ps) ≤ total w ps
        → w (k, unwrap_or o v) + total w (without k (collapse ps)) ≤ w (k, v) + total w ps
    go (Some x) e h = omega (arith, h, present_len w k x (collapse ps) (last_of-collapse k ps ∙ e))
    go None e h = omega (arith, h, filter_len w (λ p. not (bytes_eq k p.0)) (collapse ps))

ordered_parameters_len : (ps : RawParameters) → length (parameters_text (collapse ps)) ≤ length (parameters_text ps)
ordered_parameters_len ps =
    let f : List ℕ × BareValue → List ℕ = λ p. codes ";" ++ p.0 ++ value_text p.1 in
    omega (arith, flat_len f ps, flat_len f (collapse ps), collapse_len (λ p. length (f p)) ps)

ordered_item_len : (i : RawItem) → length (item_text (ordered_item i)) ≤ length (item_text i)
ordered_item_len i = omega (arith, ordered_parameters_len i.parameters, length-append {A = ℕ})

map_len : {A : Type 0} (w : A → ℕ) (g : A → A) → ((x : A) → w (g x) ≤ w x) → (xs : List A)
    → total w (map g xs) ≤ total w xs
map_len w g each [] = omega arith
map_len w g each (x ∷ xs) = omega (arith, each x, map_len w g each xs)

within_len : {A : Type 0} (separator : List ℕ) (f : A → List ℕ) → 1 ≤ length separator → (ys xs : List A)
    → total (λ x. length (separator ++ f x)) ys ≤ total (λ x. length (separator ++ f x)) xs
    → length (joined separator (map f ys)) ≤ length (joined separator (map f xs))
within_len separator f some [] xs h = omega arith
within_len separator f some (y ∷ ys) [] h = absurd (omega (arith, length-append separator (f y)))
within_len separator f some (y ∷ ys) (x ∷ xs) h =
    let g : _ → List ℕ = λ z. separator ++ f z in
    omega (
      arith,
      joined_len separator f y ys,
      joined_len separator f x xs,
      flat_len g ys,
      flat_len g xs,
      length-append {A = ℕ},
    )

longer : {A : Type 0} (separator : List ℕ) (f : A → List ℕ) (x y : A) → length (f x) ≤ length (f y)
    → length (separator ++ f x) ≤ length (separator ++ f y)
longer separator f x y h = omega (arith, length-append {A = ℕ})

mapped_len : {A : Type 0} (separator : List ℕ) (f : A → List ℕ) (g : A → A) → 1 ≤ length separator
    → ((x : A) → length (f (g x)) ≤ length (f x)) → (xs : List A)
    → length (joined separator (map f (map g xs))) ≤ length (joined separator (map f xs))
mapped_len separator f g some each xs = within_len separator f some (map g xs) xs
    (map_len (λ x. length (separator ++ f x)) g (λ x. longer separator f (g x) x (each x)) xs)

ordered_inner_list_len : (l : RawInnerList) → length (member_text (ordered_member (inner_list l)))
    ≤ length (member_text (inner_list l))
ordered_inner_list_len l =
    let items = mapped_len (codes " ") item_text ordered_item (omega arith) ordered_item_len l.items in
    simp length-append (omega (arith, items, ordered_parameters_len l.parameters))

ordered_member_len : (m : RawMember) → length (member_text (ordered_member m)) ≤ length (member_text m)
ordered_member_len (item i) = ordered_item_len i
ordered_member_len (inner_list l) = ordered_inner_list_len l

ordered_entry_len : (key : List ℕ) (m : RawMember)
    → length (dictionary_member_text (key, ordered_member m)) ≤ length (dictionary_member_text (key, m))
ordered_entry_len key (item i) = simp length-append (omega (arith, ordered_parameters_len i.parameters))
ordered_entry_len key (inner_list l) =
    simp length-append (omega (arith, simp length-append at (ordered_inner_list_len l)))

ordered_len : (kind : FieldKind) (raw : RawField kind)
    → length (canonical kind (ordered kind raw)) ≤ length (canonical kind raw)
ordered_len item_field i = ordered_item_len i
ordered_len list_field ms = mapped_len (codes ", ") member_text ordered_member (omega arith) ordered_member_len ms
ordered_len dictionary_field ms =
    let w : List ℕ × RawMember → ℕ = λ m. length (codes ", " ++ dictionary_member_text m) in
    let g : List ℕ × RawMember → List ℕ × RawMember = λ m. (m.0, ordered_member m.1) in
    within_len (codes ", ") dictionary_member_text (omega arith) (map g (collapse ms)) ms (omega (
      arith,
      map_len w g (λ m. longer (codes ", ") dictionary_member_text (g m) m (ordered_entry_len m.0 m.1)) (collapse ms),
      collapse_len w ms,
    ))

pub length_bound_lem : LengthBound
length_bound_lem version kind t value h =
    rw h.holds (omega (arith, ordered_len kind h.raw, field_len version kind h.raw t h.accepted))
