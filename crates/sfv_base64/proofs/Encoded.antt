-- What `base64` encodes.
use Rattle.std.proofs.Common.{◌++◌, codes, ◌≡◌, ℕ, suc, ◌%◌, List, [], ◌∷◌, length, refl, arith}
use Rattle.base64.specs.{Engines.standard, GeneralPurpose.encode_of, Rfc4648.encode_symbols}
use Rattle.sfv_spec.specs.{Base64.base64_text, Canonical.bare_text, Values.byte_sequence}
use Rattle.sfv_base64.specs.Agreement.{WrittenAsEncoded}

encoded : (bytes : List ℕ) → encode_of standard bytes ≡ base64_text bytes
unfolding encode_symbols base64_text
encoded [] = refl
encoded (a ∷ []) = refl
encoded (a ∷ b ∷ []) = refl
encoded (a ∷ b ∷ c ∷ rest) =
    let e : suc (suc (suc (length rest))) % 3 ≡ length rest % 3 = omega arith in
    rw (e) (cc (encoded rest))

pub written : WrittenAsEncoded
written bytes = rw (encoded bytes) refl

pub between_colons : (bytes text : List ℕ) → text ≡ encode_of standard bytes
    → bare_text (byte_sequence bytes) ≡ codes ":" ++ text ++ codes ":"
between_colons bytes text is = rw is (written bytes)
