-- Texts of a class, and the results of their constructors.
use Rattle.std.specs.Prelude.{◌≡◌, ℕ, Bool, List, IsTrue, Result, MatchResult}
use Rattle.sfv_base.specs.declared.error.Error.{Error}
use Rattle.sfv_values.specs.declared.text_class.TextClass.{Ghosts}
use Rattle.sfv_values.specs.declared.checked_text_ref.CheckedTextRef.{CheckedTextRef}

-- the bytes of a borrowed text
abbrev pub text_of : {C : Type 0} {class : Ghosts C} → CheckedTextRef C class → List ℕ
text_of k = k.text.now

-- r is the borrowed text of exactly these bytes if they are of its class, otherwise the error
abbrev pub GivesTextRef : {C : Type 0} {class : Ghosts C} → List ℕ → Result (CheckedTextRef C class) Error → Type 0
GivesTextRef {class = class} t r = MatchResult r (λ k. (text_of k ≡ t) × IsTrue (class.is_valid t)) (class.IsInvalid t)

-- r is the owned text of exactly these bytes if they are of its class, otherwise the error
abbrev pub GivesText : (List ℕ → Bool) → (List ℕ → Error → Type 0) → List ℕ → Result (List ℕ) Error → Type 0
GivesText is_valid IsInvalid t r = MatchResult r (λ k. (k ≡ t) × IsTrue (is_valid t)) (IsInvalid t)
