-- Canonical texts are printable ASCII.
use Rattle.std.proofs.Common.{◌≡◌, ℕ, zero, suc, Bool, true, false, List, [], ◌∷◌, ◌++◌, map, refl, replicate, inl, inr}
use Rattle.std.{proofs.Common.{arith, IsTrue, flat_map, codes, nat_lt, ltb-true}, specs.Char.is_ascii_digit}
use Rattle.std.{specs.List.{list_all, AllByRecursion}, proofs.lemmas.Bool.{and_parts, and_from, agree_below_at}}
use Rattle.std.proofs.lemmas.{Bool.Decides.nat_tests, List.Folds.list_all-append}
use Rattle.sfv_spec.specs.Base64.{symbol, IsBase64Text}
use Rattle.sfv_spec.specs.Canonical.{bare_text, value_text, parameters_text, item_text, inner_list_text, member_text}
use Rattle.sfv_spec.specs.Canonical.{dictionary_member_text}
use Rattle.sfv_spec.specs.Classes.{is_string_byte, is_key, is_key_start, is_key_inner, is_token, is_token_start}
use Rattle.sfv_spec.specs.{Classes.{is_token_inner, is_lower_hexadecimal}, Grammar.IsBareText, Numbers.text_if}
use Rattle.sfv_spec.specs.{Statements.PrintableTexts, Strings.{is_escaped_in_string, IsStringPiece, IsDisplayPiece}}
use Rattle.sfv_spec.specs.Texts.{RunOf, IsJoining, joined}
use Rattle.sfv_spec.specs.Values.{BareValue, integer, decimal, string, token, byte_sequence, boolean, date}
use Rattle.sfv_spec.specs.Values.{display_string, IsBareValue, RawParameters, RawItem, RawInnerList, AreParameters}
use Rattle.sfv_spec.specs.Values.{IsItem, RawMember, item, inner_list, IsMember}
use Rattle.sfv_spec.specs.declared.field_kind.FieldKind.TheVariants.{Item as item_field, List as list_field}
use Rattle.sfv_spec.specs.declared.field_kind.FieldKind.TheVariants.{Dictionary as dictionary_field}
use Rattle.sfv_spec.specs.declared.version.Version.TheVariants.{Rfc9651}
use Rattle.sfv_spec.proofs.{Marks.equals_sign, Settled.{joining-nil, joining-cons}, Written.bare_written}

abbrev pub Printable : List ℕ → Type 0
Printable = RunOf is_string_byte

-- ---- runs of a class

pub run_append : (test : ℕ → Bool) (a b : List ℕ) → RunOf test a → RunOf test b → RunOf test (a ++ b)
run_append test a b h k = rw (list_all-append test a b, h, k) refl

pub run_weaker : (p q : ℕ → Bool) → ((c : ℕ) → p c ≡ true → q c ≡ true) → (run : List ℕ) → RunOf p run → RunOf q run
run_weaker p q f [] h = refl
run_weaker p q f (c ∷ run) h = let a = and_parts (p c) (list_all p run) h in
    and_from (q c) (list_all q run) (f c a.0) (run_weaker p q f run a.1)

-- a text between two that are printable
between : (s t u : List ℕ) → Printable s → Printable t → Printable u → Printable (s ++ t ++ u)
between s t u h k l = run_append is_string_byte (s ++ t) u (run_append is_string_byte s t h k) l

-- the texts of all values, with nothing between them
flat_printable : {A : Type 0} {V : A → Type 0} (f : A → List ℕ) → ((x : A) → V x → Printable (f x)) → (xs : List A)
    → AllByRecursion V xs → Printable (flat_map f xs)
flat_printable f p [] h = refl
flat_printable f p (x ∷ xs) h =
    run_append is_string_byte (f x) (flat_map f xs) (p x h.0) (flat_printable f p xs h.1)

-- and with a separator
joined_printable : {A : Type 0} {V : A → Type 0} (s : List ℕ) → Printable s → (f : A → List ℕ)
    → ((x : A) → V x → Printable (f x)) → (xs : List A) → AllByRecursion V xs → Printable (joined s (map f xs))
joined_printable s q f p [] h = refl
joined_printable s q f p (x ∷ []) h = p x h.0
joined_printable s q f p (x ∷ y ∷ xs) h = run_append is_string_byte (f x ++ s) (joined s (map f (y ∷ xs)))
    (run_append is_string_byte (f x) s (p x h.0) q) (joined_printable s q f p (y ∷ xs) h.1)

joining_printable : {A : Type 0} {P : A → List ℕ → Type 0} → ((x : A) (t : List ℕ) → P x t → Printable t)
    → (xs : List A) (t : List ℕ) → IsJoining P xs t → Printable t
joining_printable f [] t h = rw (joining-nil h) refl
joining_printable f (x ∷ xs) t h = let c = joining-cons h in rw c.text
    (run_append is_string_byte c.front c.back (f x c.front c.first) (joining_printable f xs c.back c.second))

-- ---- classes

digit_printable : (c : ℕ) → is_ascii_digit c ≡ true → is_string_byte c ≡ true
digit_printable c h = grind (arith, nat_tests)

key_start_printable : (c : ℕ) → is_key_start c ≡ true → is_string_byte c ≡ true
key_start_printable c h = grind (arith, nat_tests)

key_inner_printable : (c : ℕ) → is_key_inner c ≡ true → is_string_byte c ≡ true
key_inner_printable c h = grind (arith, nat_tests)

token_start_printable : (c : ℕ) → is_token_start c ≡ true → is_string_byte c ≡ true
token_start_printable c h = grind (arith, nat_tests)

token_inner_printable : (c : ℕ) → is_token_inner c ≡ true → is_string_byte c ≡ true
token_inner_printable c h = grind (arith, nat_tests)

hexadecimal_printable : (c : ℕ) → is_lower_hexadecimal c ≡ true → is_string_byte c ≡ true
hexadecimal_printable c h = grind (arith, nat_tests)

escaped_printable : (c : ℕ) → is_escaped_in_string c ≡ true → is_string_byte c ≡ true
escaped_printable c h = grind (arith, nat_tests)

key_printable : (key : List ℕ) → IsTrue (is_key key) → Printable key
key_printable [] h = refl
key_printable (c ∷ cs) h = let a = and_parts _ _ h in
    and_from _ _ (key_start_printable c a.0) (run_weaker _ _ key_inner_printable cs a.1)

token_printable : (t : List ℕ) → IsTrue (is_token t) → Printable t
token_printable [] h = refl
token_printable (c ∷ cs) h = let a = and_parts _ _ h in
    and_from _ _ (token_start_printable c a.0) (run_weaker _ _ token_inner_printable cs a.1)

-- ---- bare items

digits_printable : (ds : List ℕ) → list_all is_ascii_digit ds ≡ true → Printable ds
digits_printable ds h = run_weaker is_ascii_digit is_string_byte digit_printable ds h

sign_printable : (b : Bool) → Printable (text_if b (codes "-"))
sign_printable true = refl
sign_printable false = refl

integer_printable : (t : List ℕ) (b : Bool) (ds : List ℕ) → list_all is_ascii_digit ds ≡ true
    → t ≡ text_if b (codes "-") ++ ds → Printable t
integer_printable t b ds h e =
    rw e (run_append is_string_byte (text_if b (codes "-")) ds (sign_printable b) (digits_printable ds h))

piece_printable : (c : ℕ) (t : List ℕ) → IsStringPiece c t → Printable t
piece_printable c t (inl h) = rw h.1 (and_from _ _ (and_parts _ _ h.0).0 refl)
piece_printable c t (inr h) = rw h.1 (and_from (is_string_byte c) true (escaped_printable c h.0) refl)

display_printable : (c : ℕ) (t : List ℕ) → IsDisplayPiece c t → Printable t
display_printable c t (inl h) = rw h.1 (and_from _ _ (and_parts _ _ h.0).0 refl)
display_printable c t (inr h) =
    let a = and_parts (is_lower_hexadecimal h.0) (is_lower_hexadecimal h.1) h.2 in
    rw (h.4, hexadecimal_printable h.0 a.0, hexadecimal_printable h.1 a.1) refl

symbols_printable : (vs : List ℕ) → list_all (λ v. nat_lt v 64) vs ≡ true → Printable (map symbol vs)
symbols_printable [] h = refl
symbols_printable (v ∷ vs) h = let p = and_parts (nat_lt v 64) (list_all (λ v. nat_lt v 64) vs) h in
    and_from (is_string_byte (symbol v)) (list_all is_string_byte (map symbol vs))
    (agree_below_at (λ v. is_string_byte (symbol v)) (λ _. true) 64 v refl (ltb-true v 64 p.0))
    (symbols_printable vs p.1)

padding_printable : (n : ℕ) → Printable (replicate n equals_sign)
padding_printable zero = refl
padding_printable (suc n) = padding_printable n

base64_printable : (bytes t : List ℕ) → IsBase64Text bytes t → Printable t
base64_printable bytes t h = rw h.text (run_append is_string_byte (map symbol h.values)
    (replicate h.padding equals_sign) (symbols_printable h.values h.in_range.0) (padding_printable h.padding))

pub bare_printable : (b : BareValue) (t : List ℕ) → IsBareText Rfc9651 b t → Printable t
bare_printable (integer z) t h = integer_printable t h.negative h.digits h.counted.2 h.text
bare_printable (decimal z) t h = rw h.text (run_append is_string_byte (text_if h.negative (codes "-") ++ h.whole ++
    codes ".") h.fraction (between (text_if h.negative (codes "-")) h.whole (codes ".") (sign_printable h.negative)
    (digits_printable h.whole h.counted.0.2) refl) (digits_printable h.fraction h.counted.1.2))
bare_printable (string s) t h = rw (h.text, h.first, h.second.text, h.second.second) (between
    (codes "\"") h.second.front (codes "\"") refl (joining_printable piece_printable _ _ h.second.first) refl)
bare_printable (token s) t h = rw h.1 (token_printable s h.0)
bare_printable (byte_sequence s) t h = rw (h.text, h.first, h.second.text, h.second.second) (between (codes ":")
    h.second.front (codes ":") refl (base64_printable _ _ h.second.first) refl)
bare_printable (boolean true) t h = rw h refl
bare_printable (boolean false) t h = rw h refl
bare_printable (date z) t h = let k = h.1 in let n = k.second in rw (k.text, k.first) (run_append is_string_byte
    (codes "@") k.back refl (integer_printable k.back n.negative n.digits n.counted.2 n.text))
bare_printable (display_string s) t h = let k = h.1 in rw (k.text, k.first, k.second.text, k.second.second) (between
    (codes "%\"") k.second.front (codes "\"") refl (joining_printable display_printable _ _ k.second.first.0) refl)

-- ---- canonical texts

bare_text_printable : (b : BareValue) → IsBareValue b → Printable (bare_text b)
bare_text_printable b h = bare_printable b (bare_text b) (bare_written Rfc9651 b h refl)

value_printable : (b : BareValue) → IsBareValue b → Printable (value_text b)
value_printable (boolean true) h = refl
value_printable b h = run_append is_string_byte (codes "=") (bare_text b) refl (bare_text_printable b h)

parameters_printable : (ps : RawParameters) → AreParameters ps → Printable (parameters_text ps)
parameters_printable = flat_printable (λ p. codes ";" ++ p.0 ++ value_text p.1)
    (λ p h. between (codes ";") p.0 (value_text p.1) refl (key_printable p.0 h.0) (value_printable p.1 h.1))

pub item_printable : (i : RawItem) → IsItem i → Printable (item_text i)
item_printable i h = run_append is_string_byte (bare_text i.bare) (parameters_text i.parameters)
    (bare_text_printable i.bare h.0) (parameters_printable i.parameters h.1)

pub inner_list_printable : (l : RawInnerList) → AllByRecursion IsItem l.items × AreParameters l.parameters
    → Printable (inner_list_text l)
inner_list_printable l h =
    let inside = joined (codes " ") (map item_text l.items) in
    let end = parameters_text l.parameters in
    run_append is_string_byte (codes "(" ++ inside ++ codes ")") end (between (codes "(") inside (codes ")") refl
    (joined_printable (codes " ") refl item_text item_printable _ h.0) refl) (parameters_printable _ h.1)

member_printable : (m : RawMember) → IsMember m → Printable (member_text m)
member_printable (item i) h = item_printable i h
member_printable (inner_list l) h = inner_list_printable l h

entry_printable : (m : List ℕ × RawMember) → IsTrue (is_key m.0) × IsMember m.1 → Printable (dictionary_member_text m)
entry_printable (key, item i) h = between key (value_text i.bare) (parameters_text i.parameters)
    (key_printable key h.0) (value_printable i.bare h.1.0) (parameters_printable i.parameters h.1.1)
entry_printable (key, inner_list l) h = between key (codes "=") (inner_list_text l) (key_printable key h.0) refl
    (inner_list_printable l h.1)

pub printable_texts_lem : PrintableTexts
printable_texts_lem item_field i h = item_printable i h
printable_texts_lem list_field ms h = joined_printable (codes ", ") refl member_text member_printable ms h
printable_texts_lem dictionary_field ms h = joined_printable _ refl _ entry_printable _ h
