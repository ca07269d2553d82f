-- An error that says why a text isn't of its class says that it isn't.
use Rattle.std.proofs.Common.{◌≡◌, ℕ, suc, List, [], ◌∷◌, Bool, true, false, not, ◌&&◌, IsTrue, Option, Some, None}
use Rattle.std.proofs.Common.{refl, if◌then◌else◌, inl, inr, option_map, position, Result, Ok, Err, MatchResult}
use Rattle.std.{proofs.Common.{MatchOption, arith}, specs.List.list_all, specs.Result.result_ok}
use Rattle.std.proofs.lemmas.{Bool.Decides.nat_tests, Grind.common_steps}
use Rattle.sfv.specs.Classes.{is_key, is_key_start, is_key_inner, is_token, is_token_start, is_token_inner}
use Rattle.sfv.specs.{Classes.is_string_byte, InvalidTexts.{IsInvalidKey, IsInvalidToken, IsInvalidString}, Types.Error}

all_inside : (b rest : Bool) (r : Option ℕ) (i : ℕ) → ((j : ℕ) → r ≡ Some j → rest ≡ true → ⊥)
    → (if b then option_map suc r else Some 0) ≡ Some i → (b && rest) ≡ true → ⊥
all_inside true rest None i k h a = cc
all_inside true rest (Some j) i k h a = k j refl a
all_inside false rest r i k h a = cc

none_outside : (f : ℕ → Bool) (cs : List ℕ) → list_all f cs ≡ true → position (λ b. not (f b)) cs ≡ None
none_outside f [] h = refl
none_outside f (c ∷ cs) h = let e = none_outside f cs in grind (arith, nat_tests, common_steps)

no_position : (f : ℕ → Bool) (cs : List ℕ) (i : ℕ) → position (λ b. not (f b)) cs ≡ Some i → list_all f cs ≡ true → ⊥
no_position f cs i h a = let e = none_outside f cs a in cc

pub not_key : (t : List ℕ) (e : Error) → IsInvalidKey t e → IsTrue (is_key t) → ⊥
not_key [] e h a = cc
not_key (c ∷ cs) e (inl h) a = cc
not_key (c ∷ cs) e (inr h) a = all_inside (is_key_start c) (list_all is_key_inner cs) (position (λ b. not (is_key_inner b)) cs)
    h.0 (no_position is_key_inner cs) h.1 a

pub not_token : (t : List ℕ) (e : Error) → IsInvalidToken t e → IsTrue (is_token t) → ⊥
not_token [] e h a = cc
not_token (c ∷ cs) e (inl h) a = cc
not_token (c ∷ cs) e (inr h) a = all_inside (is_token_start c) (list_all is_token_inner cs)
    (position (λ b. not (is_token_inner b)) cs) h.0 (no_position is_token_inner cs) h.1 a

pub not_string : (t : List ℕ) (e : Error) → IsInvalidString t e → IsTrue (list_all is_string_byte t) → ⊥
not_string [] e h a = cc
not_string (c ∷ cs) e h a = all_inside (is_string_byte c) (list_all is_string_byte cs)
    (position (λ b. not (is_string_byte b)) cs) h.0 (no_position is_string_byte cs) h.1 a

pub made : {T : Type 0} (P : Type 0) (Q : T → Type 0) (Is : Error → Type 0) (r : Result T Error)
    → MatchResult r Q Is → ((e : Error) → Is e → P → ⊥) → MatchOption (result_ok r) (P → ⊥) Q
made P Q Is (Ok x) h n = h
made P Q Is (Err e) h n = n e h
