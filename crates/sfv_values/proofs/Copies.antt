-- A copy of a bare item that owns its text has the same value.
use Rattle.std.{proofs.Common.{◌≡◌, ℕ, List, ap, string_bytes}, specs.List.{AllZip, each_same}}
use Rattle.std.specs.declared.{alloc.Global.Global, vec.Vec.Vec}
use Rattle.sfv_values.specs.{BareItems.{IsCopyBy, bare_value}, declared.bare.GenericBareItem.GenericBareItem}
use Rattle.std.specs.declared.string.String as std_string
use Rattle.sfv_spec.specs.Values as values
use Rattle.sfv_values.specs.declared.bare.GenericBareItem.TheVariants as bare

-- what holds of a copy of the bytes, whatever else does
pub copied_value : (s : List ℕ → List ℕ → Type 0) (b : Vec ℕ Global → Vec ℕ Global → Type 0)
    (t : List ℕ → List ℕ → Type 0) (d : std_string.String Global → std_string.String Global → Type 0)
    → ((x y : List ℕ) → s x y → y ≡ x) → ((x y : Vec ℕ Global) → b x y → AllZip (λ m n. n ≡ m) x.items y.items)
    → ((x y : List ℕ) → t x y → y ≡ x) → ((x y : std_string.String Global) → d x y → string_bytes y ≡ string_bytes x)
    → (x y : GenericBareItem (List ℕ) (Vec ℕ Global) (List ℕ) (std_string.String Global))
    → IsCopyBy s b t d x y → bare_value y ≡ bare_value x
copied_value s b t d on_s on_b on_t on_d (bare.String x) (bare.String y) h = ap values.string (on_s x y h)
copied_value s b t d on_s on_b on_t on_d (bare.ByteSequence x) (bare.ByteSequence y) h =
    ap values.byte_sequence (each_same x.items y.items (on_b x y h))
copied_value s b t d on_s on_b on_t on_d (bare.Token x) (bare.Token y) h = ap values.token (on_t x y h)
copied_value s b t d on_s on_b on_t on_d (bare.DisplayString x) (bare.DisplayString y) h =
    ap values.display_string (on_d x y h)
copied_value s b t d on_s on_b on_t on_d x y h = ap bare_value h
