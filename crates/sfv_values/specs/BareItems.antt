-- The values of bare items, whatever type owns their texts.
use Rattle.std.specs.Prelude.{◌≡◌, ⊤, ℕ, ℤ, List, Bool, true, false, Option, MatchOption, string_bytes}
use Rattle.std.specs.Borrow.{Bor}
use Rattle.std.specs.declared.alloc.Global.{Global}
use Rattle.std.specs.declared.vec.Vec.{Vec}
use Rattle.std.specs.declared.string.String as std_string
use Rattle.std.specs.declared.borrow.CowStr.{CowStr}
use Rattle.std.specs.Cow.{cow_str_bytes}
use Rattle.std.specs.declared.borrow.CowStr.TheVariants as cow
use Rattle.sfv_spec.specs.Values.{BareValue}
use Rattle.sfv_spec.specs.Values as values
use Rattle.sfv_base.specs.Numbers.{integer_of, thousandths_of, seconds_of}
use Rattle.sfv_base.specs.declared.integer.Integer.{Integer}
use Rattle.sfv_values.specs.TokenText.{TokenRef}
use Rattle.sfv_values.specs.CheckedTexts.{text_of}
use Rattle.sfv_values.specs.StringText.{StringRef}
use Rattle.sfv_values.specs.declared.bare.GenericBareItem.{GenericBareItem}
use Rattle.sfv_values.specs.declared.bare.GenericBareItem.TheVariants as bare
use Rattle.sfv_values.specs.declared.bare.StringFromInput.{StringFromInput}
use Rattle.sfv_values.specs.declared.bare.StringFromInput.TheVariants as input

-- the value of a bare item, where the first arguments give the bytes of its texts
abbrev pub value_by : {S B T D : Type 0} → (S → List ℕ) → (B → List ℕ) → (T → List ℕ) → (D → List ℕ)
    → GenericBareItem S B T D → BareValue
value_by s b t d (bare.Decimal z) = values.decimal (thousandths_of z)
value_by s b t d (bare.Integer z) = values.integer (integer_of z)
value_by s b t d (bare.String x) = values.string (s x)
value_by s b t d (bare.ByteSequence x) = values.byte_sequence (b x)
value_by s b t d (bare.Boolean x) = values.boolean x
value_by s b t d (bare.Token x) = values.token (t x)
value_by s b t d (bare.Date z) = values.date (seconds_of z)
value_by s b t d (bare.DisplayString x) = values.display_string (d x)

-- the integer of this number, as a bare item
abbrev pub IsInteger : {S B T D : Type 0} → ℤ → GenericBareItem S B T D → Type 0
IsInteger z item = (n : Integer) × (item ≡ bare.Integer n) × (integer_of n ≡ z)

-- the value of a bare item with owned text
abbrev pub bare_value : GenericBareItem (List ℕ) (Vec ℕ Global) (List ℕ) (std_string.String Global) → BareValue
bare_value item = value_by (λ s. s) (λ b. b.items) (λ t. t) string_bytes item

-- the value of a bare item with borrowed text
abbrev pub ref_value : GenericBareItem StringRef (Bor (List ℕ)) TokenRef (Bor (List ℕ)) → BareValue
ref_value item = value_by text_of (λ b. b.now) text_of (λ d. d.now) item

-- the bytes of a parsed string
abbrev pub read_text : StringFromInput → List ℕ
read_text (input.Borrowed s) = text_of s
read_text (input.Owned s) = s

-- the value of a parsed bare item
abbrev pub input_value : GenericBareItem StringFromInput (Vec ℕ Global) TokenRef (CowStr Global) → BareValue
input_value item = value_by read_text (λ b. b.items) text_of cow_str_bytes item

-- the value is a text
abbrev pub is_text : BareValue → Bool
is_text (values.string s) = true
is_text (values.token t) = true
is_text (values.display_string d) = true
is_text v = false

-- the value is a text or a byte sequence
abbrev pub holds_bytes : BareValue → Bool
holds_bytes (values.byte_sequence b) = true
holds_bytes v = is_text v

-- the parsed string is borrowed from the input
abbrev pub is_borrowed_string : StringFromInput → Bool
is_borrowed_string (input.Borrowed s) = true
is_borrowed_string (input.Owned s) = false

-- the parsed display string is borrowed from the input
abbrev pub is_borrowed_text : CowStr Global → Bool
is_borrowed_text (cow.Borrowed s) = true
is_borrowed_text (cow.Owned s) = false

-- the text of the parsed bare item is borrowed from the input
abbrev pub is_borrowed : GenericBareItem StringFromInput (Vec ℕ Global) TokenRef (CowStr Global) → Bool
is_borrowed (bare.String s) = is_borrowed_string s
is_borrowed (bare.Token t) = true
is_borrowed (bare.DisplayString d) = is_borrowed_text d
is_borrowed item = false

-- The copy has the same kind, and its content is a copy as the content's type defines it.
abbrev pub IsCopyBy : {S B T D : Type 0} → (S → S → Type 0) → (B → B → Type 0) → (T → T → Type 0)
    → (D → D → Type 0) → GenericBareItem S B T D → GenericBareItem S B T D → Type 0
IsCopyBy s b t d (bare.String x) (bare.String y) = s x y
IsCopyBy s b t d (bare.ByteSequence x) (bare.ByteSequence y) = b x y
IsCopyBy s b t d (bare.Token x) (bare.Token y) = t x y
IsCopyBy s b t d (bare.DisplayString x) (bare.DisplayString y) = d x y
IsCopyBy s b t d item copy = copy ≡ item

-- Copying does not allocate: for numbers and booleans, and for texts or bytes whose copy does not allocate.
abbrev pub TakesNoMemoryBy : {S B T D : Type 0} → (S → Type 0) → (B → Type 0) → (T → Type 0) → (D → Type 0)
    → GenericBareItem S B T D → Type 0
TakesNoMemoryBy s b t d (bare.String x) = s x
TakesNoMemoryBy s b t d (bare.ByteSequence x) = b x
TakesNoMemoryBy s b t d (bare.Token x) = t x
TakesNoMemoryBy s b t d (bare.DisplayString x) = d x
TakesNoMemoryBy s b t d item = ⊤

-- `Some` content for a value of this kind, and `None` for every other value
abbrev pub GivesPart : {A V P : Type 0} → (A → V) → (P → A) → V → Option P → Type 0
GivesPart {A} kind content value r = MatchOption r ((x : A) → ¬ (value ≡ kind x)) (λ p. value ≡ kind (content p))
