-- Byte sequences, and what the crate `base64` encodes and decodes.
use Rattle.std.specs.Prelude.{◌≡◌, ◌↔◌, ℕ, List, ◌++◌, codes, true, ⊤}
use Rattle.base64.specs.declared.engine.general_purpose.GeneralPurpose.{GeneralPurpose}
use Rattle.base64.specs.declared.engine.DecodePaddingMode.TheVariants.{Indifferent}
use Rattle.base64.specs.Engines.{standard}
use Rattle.base64.specs.GeneralPurpose.{IsBytes, IsConfig, decode_of, encode_of, engine_config, engine_padding}
use Rattle.base64.specs.GeneralPurpose.{engine_symbols}
use Rattle.std.specs.declared.result.Result.TheVariants.{Ok}
use Rattle.base64.specs.declared.decode.DecodeAllocError.{DecodeAllocError}
use Rattle.base64.specs.declared.decode.DecodeAllocError.TheVariants.{DecodeError, OutOfMemory}
use Rattle.sfv_spec.specs.Ascii.{byte}
use Rattle.sfv_spec.specs.Values.{byte_sequence}
use Rattle.sfv_spec.specs.Base64.{IsBase64Text, symbols}
use Rattle.sfv_spec.specs.Canonical.{bare_text}

-- an engine of `base64` with the standard alphabet; it accepts missing padding and spare bits of any value
pub record IsLenient (engine : GeneralPurpose) : Type 0 where
  pub alphabet : engine_symbols engine ≡ symbols
  pub padding : engine_padding engine ≡ byte "="
  pub config : IsConfig (engine_config engine) true true Indifferent

-- The canonical text of a byte sequence is the output of `base64` with the standard alphabet and padding, between
-- colons.
abbrev pub WrittenAsEncoded : Type 0
WrittenAsEncoded = (bytes : List ℕ)
    → bare_text (byte_sequence bytes) ≡ codes ":" ++ encode_of standard bytes ++ codes ":"

-- a content between colons has these bytes if and only if a lenient engine of `base64` decodes it to them
abbrev pub ParsedAsDecoded : Type 0
ParsedAsDecoded = (engine : GeneralPurpose) → IsLenient engine → (content bytes : List ℕ) → IsBytes content
    → IsBase64Text bytes content ↔ (decode_of engine content ≡ Ok bytes)

-- the error is out of memory, or no byte sequence has this content
abbrev pub HasNoBytes : List ℕ → DecodeAllocError → Type 0
HasNoBytes content (DecodeError error) = (bytes : List ℕ) → ¬ IsBase64Text bytes content
HasNoBytes content OutOfMemory = ⊤
