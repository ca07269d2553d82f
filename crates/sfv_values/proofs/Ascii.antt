-- Texts of each class are ASCII, so they are UTF-8.
use Rattle.std.proofs.Common.{◌≡◌, ℕ, zero, suc, ◌<◌, Bool, true, List, [], ◌∷◌, arith, lit<, IsTrue, IsUtf8, IsAscii}
use Rattle.std.specs.List.{list_all}
use Rattle.std.proofs.lemmas.{Bool.and_parts, Bool.Decides.nat_tests, Str.IsUtf8-from_ascii}
use Rattle.sfv_spec.specs.Classes.{is_key_start, is_key_inner, is_key, is_string_byte, is_token_start, is_token_inner}
use Rattle.sfv_spec.specs.{Classes.is_token, Texts.RunOf}

run_ascii : (class : ℕ → Bool) → ((c : ℕ) → class c ≡ true → c < 128) → (t : List ℕ) → RunOf class t → IsAscii t
run_ascii class below [] h i = lit< tt
run_ascii class below (c ∷ t) h zero = below c (and_parts _ _ h).0
run_ascii class below (c ∷ t) h (suc i) = run_ascii class below t (and_parts _ _ h).1 i

key_start_ascii : (c : ℕ) → is_key_start c ≡ true → c < 128
key_start_ascii c h = grind (arith, nat_tests)

key_inner_ascii : (c : ℕ) → is_key_inner c ≡ true → c < 128
key_inner_ascii c h = grind (arith, nat_tests)

token_start_ascii : (c : ℕ) → is_token_start c ≡ true → c < 128
token_start_ascii c h = grind (arith, nat_tests)

token_inner_ascii : (c : ℕ) → is_token_inner c ≡ true → c < 128
token_inner_ascii c h = grind (arith, nat_tests)

key_ascii : (t : List ℕ) → IsTrue (is_key t) → IsAscii t
key_ascii [] h i = lit< tt
key_ascii (c ∷ t) h zero = key_start_ascii c (and_parts _ _ h).0
key_ascii (c ∷ t) h (suc i) = run_ascii is_key_inner key_inner_ascii t (and_parts _ _ h).1 i

token_ascii : (t : List ℕ) → IsTrue (is_token t) → IsAscii t
token_ascii [] h i = lit< tt
token_ascii (c ∷ t) h zero = token_start_ascii c (and_parts _ _ h).0
token_ascii (c ∷ t) h (suc i) = run_ascii is_token_inner token_inner_ascii t (and_parts _ _ h).1 i

pub key_utf8 : (t : List ℕ) → IsTrue (is_key t) → IsUtf8 t
key_utf8 t h = IsUtf8-from_ascii t (key_ascii t h)

pub token_utf8 : (t : List ℕ) → IsTrue (is_token t) → IsUtf8 t
token_utf8 t h = IsUtf8-from_ascii t (token_ascii t h)

string_byte_ascii : (c : ℕ) → is_string_byte c ≡ true → c < 128
string_byte_ascii c h = grind (arith, nat_tests)

pub string_utf8 : (t : List ℕ) → IsTrue (list_all is_string_byte t) → IsUtf8 t
string_utf8 t h = IsUtf8-from_ascii t (run_ascii is_string_byte string_byte_ascii t h)
