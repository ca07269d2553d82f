-- Writing for a version: the values that it checks, and the errors for them.
use Rattle.std.specs.Prelude.{⊤, ◌≡◌, ◌<◌, ◌⊎◌, ◌++◌, ℕ, Bool, List, [], ◌∷◌, length, map, flat_map, codes}
use Rattle.std.specs.Prelude.{string_bytes, Option, Result, MatchResult, IsTrue, Some, true, not}
use Rattle.std.specs.Iterator.{Yields, Drains}
use Rattle.std.specs.List.{AllByRecursion, find}
use Rattle.std.specs.Borrow.{Bor}
use Rattle.std.specs.declared.string.String.{String}
use Rattle.sfv_spec.specs.Classes.{is_key}
use Rattle.sfv_spec.specs.Canonical.{item_text, member_text, dictionary_member_text, value_text}
use Rattle.sfv_spec.specs.Ordered.{ordered_item, ordered_member}
use Rattle.sfv_spec.specs.Values.{BareValue, IsBareValue, IsItem, IsMember, item_values, member_values, fits_bare}
use Rattle.sfv_spec.specs.Values.{AllFit}
use Rattle.sfv_spec.specs.declared.version.Version.{Version}
use Rattle.sfv_values.specs.BareItems.{bare_value}
use Rattle.sfv_values.specs.Kinds.{kind_text, kind_of_value}
use Rattle.sfv_values.specs.declared.bare.BareItemType.{BareItemType}
use Rattle.sfv_tree.specs.Trees.{OwnedBareItem, item_tree, member_tree}
use Rattle.sfv_tree.specs.declared.parsed.Item.{Item}
use Rattle.sfv_tree.specs.declared.parsed.ListEntry.{ListEntry}
use Rattle.sfv_writer.specs.Written.{LacksRoom, with_separators, is_first_after}
use Rattle.sfv_writer.specs.declared.serialize_error.SerializeError.{SerializeError}
use Rattle.sfv_writer.specs.declared.serialize_error.SerializeError.TheVariants as errors

-- the printed text of an error
abbrev pub serialize_error_text : SerializeError → List ℕ
serialize_error_text (errors.Unsupported kind) = codes "RFC 8941 does not support " ++ kind_text kind ++ codes "s"
serialize_error_text errors.OutOfMemory = codes "out of memory"

-- the error has the kind of the first value that the version lacks
abbrev pub NamesFirstUnfit : Version → List BareValue → SerializeError → Type 0
NamesFirstUnfit version values error = (b : BareValue)
    × (find (λ v. not (fits_bare version v)) values ≡ Some b) × (error ≡ errors.Unsupported (kind_of_value b))

-- the version has all values, or the error has the kind of the first that it lacks
abbrev pub ChecksVersion : {T : Type 0} → Version → List BareValue → Result T SerializeError → Type 0
ChecksVersion version values result = MatchResult result (λ _. AllFit version values) (NamesFirstUnfit version values)

-- the same for the values of all parts that an iterator gives; an error is for the parts so far
abbrev pub ChecksAll : {A S T : Type 0} → (A → List BareValue) → Version → (S → Option A → S → Type 0) → S
    → Result T SerializeError → Type 0
ChecksAll {A} {S} values version gives from result =
    MatchResult result (λ _. (taken : List A) × Drains gives from taken × AllFit version (flat_map values taken))
    (λ e. (taken : List A) × (rest : S) × Yields gives from taken rest
    × NamesFirstUnfit version (flat_map values taken) e)

-- the error of a call that checks these values before it allocates
abbrev pub IsSerializeError : Version → List BareValue → SerializeError → Type 0
IsSerializeError version values error =
    ((error ≡ errors.OutOfMemory) × AllFit version values) ⊎ NamesFirstUnfit version values error

-- The call checks the values before it allocates: it fails with `Unsupported` if and only if the version lacks one.
abbrev pub ChecksVersionFirst : {T : Type 0} → Version → List BareValue → Result T SerializeError → Type 0
ChecksVersionFirst version values result =
    MatchResult result (λ _. AllFit version values) (IsSerializeError version values)

-- if memory runs out, this holds
abbrev pub OnOutOfMemory : {T : Type 0} → Result T SerializeError → Type 0 → Type 0
OnOutOfMemory result P = MatchResult result (λ _. ⊤) (λ e. e ≡ errors.OutOfMemory → P)

-- if the version lacks a value, this holds
abbrev pub OnUnsupported : {T : Type 0} → Result T SerializeError → Type 0 → Type 0
OnUnsupported result P = MatchResult result (λ _. ⊤) (λ e. (kind : BareItemType) → e ≡ errors.Unsupported kind → P)

-- The error of a call that checks each element of an iterator before it allocates. The error is for the elements that
-- the iterator yields first, at least one.
abbrev pub FailsAmong : {S A : Type 0} → (S → Option A → S → Type 0) → S → (List A → List BareValue) → Version
    → SerializeError → Type 0
FailsAmong {S} {A} steps from values version error =
    (taken : List A) × (rest : S) × Yields steps from taken rest × (0 < length taken)
    × IsSerializeError version (values taken) error

-- The same, where the values begin with earlier ones. The iterator may have yielded nothing.
abbrev pub FailsFrom : {S A : Type 0} → (S → Option A → S → Type 0) → S → (List A → List BareValue) → Version
    → SerializeError → Type 0
FailsFrom {S} {A} steps from values version error =
    (taken : List A) × (rest : S) × Yields steps from taken rest × IsSerializeError version (values taken) error

-- if memory runs out, the text has no room for the elements that the iterator gave, and the version has all values of
-- these
abbrev pub LacksAmong : {S A Z : Type 0} → (S → Option A → S → Type 0) → S → (List A → List BareValue) → Version
    → String Z → (List A → List ℕ) → SerializeError → Type 0
LacksAmong {S} {A} steps from values version old text error = error ≡ errors.OutOfMemory
    → (taken : List A) × (rest : S) × Yields steps from taken rest × AllFit version (values taken)
    × LacksRoom old (text taken)

-- a kind of parts that calls take from an iterator
pub record PartKind (A : Type 0) : Type 1 where
  -- the text of a part
  pub text : A → List ℕ
  -- the bare values of a part, which the version must have
  pub values : A → List BareValue
  -- the part is in its range or class; an item or a member also has no repeated keys
  pub is_valid : A → Type 0

-- parts whose value `view` shows
abbrev pub parts_by : {A R : Type 0} → (A → R) → (R → List ℕ) → (R → List BareValue) → (R → Type 0) → PartKind A
parts_by view text values is_valid =
    record { text = λ a. text (view a); values = λ a. values (view a); is_valid = λ a. is_valid (view a) }

-- the items of an inner list
abbrev pub inner_items : PartKind (Bor Item)
inner_items = parts_by (λ i. item_tree i.now) item_text item_values (λ i. IsItem i × (ordered_item i ≡ i))

-- the members of a list
abbrev pub list_members : PartKind (Bor ListEntry)
list_members = parts_by (λ m. member_tree m.now) member_text member_values (λ m. IsMember m × (ordered_member m ≡ m))

-- the members of a dictionary, with their keys
abbrev pub dictionary_members : PartKind (Bor (List ℕ) × Bor ListEntry)
dictionary_members = parts_by (λ m. (m.0.now, member_tree m.1.now)) dictionary_member_text (λ m. member_values m.1)
    (λ m. (IsTrue (is_key m.0) × IsMember m.1) × (ordered_member m.1 ≡ m.1))

-- parameters, with their keys
abbrev pub parameter_pairs : PartKind (Bor (List ℕ) × Bor OwnedBareItem)
parameter_pairs = parts_by {R = List ℕ × BareValue} (λ p. (p.0.now, bare_value p.1.now))
    (λ p. codes ";" ++ p.0 ++ value_text p.1) (λ p. p.1 ∷ []) (λ p. IsTrue (is_key p.0) × IsBareValue p.1)

-- the text of these parts with this separator, where `is_first` says that no part is written before them
abbrev pub parts_text : {A : Type 0} → PartKind A → List ℕ → Bool → List A → List ℕ
parts_text kind separator is_first parts = with_separators is_first separator (map kind.text parts)

module _ {A S : Type 0} (kind : PartKind A) (version : Version) (gives : S → Option A → S → Type 0) (from : S) where
  -- The iterator gives valid parts until it ends, the version has their values, and `IsWritten` holds of them.
  pub record TakesAll (IsWritten : List A → Type 0) : Type 0 where
    pub taken : List A
    pub drained : Drains gives from taken
    pub written : IsWritten taken
    pub valid : AllByRecursion kind.is_valid taken
    pub supported : AllFit version (flat_map kind.values taken)

  -- the text of all parts is appended to `old`; and whether no part is written then
  abbrev pub AppendsAll : {Z : Type 0} → List ℕ → String Z → Bool → String Z → Bool → Type 0
  AppendsAll separator old is_first new none = TakesAll (λ taken. (none ≡ is_first_after is_first taken)
      × (string_bytes new ≡ string_bytes old ++ parts_text kind separator is_first taken))

  -- The error is for the parts that the iterator gives first, at least one: the version lacks one of their values; or it
  -- has all, memory runs out, and the capacity of `old` doesn't hold their text.
  pub record StopsEarly {Z : Type 0} (separator : List ℕ) (old : String Z) (is_first : Bool) (error : SerializeError)
      : Type 0 where
    pub taken : List A
    pub rest : S
    pub yielded : Yields gives from taken rest
    pub some : 0 < length taken
    pub cause : IsSerializeError version (flat_map kind.values taken) error
    pub room : error ≡ errors.OutOfMemory → LacksRoom old (parts_text kind separator is_first taken)

-- the text of all parts that the iterator gives is appended to `old`, and each part is valid
abbrev pub AppendsParts : {A S Z : Type 0} → PartKind A → (S → Option A → S → Type 0) → S → List ℕ → Bool → String Z
    → String Z → Type 0
AppendsParts {A} kind gives from separator is_first old new = (taken : List A) × Drains gives from taken
    × AllByRecursion kind.is_valid taken
    × (string_bytes new ≡ string_bytes old ++ parts_text kind separator is_first taken)

-- the capacity of `old` doesn't hold the text of some first parts that the iterator gives
abbrev pub LacksForParts : {A S Z : Type 0} → PartKind A → (S → Option A → S → Type 0) → S → List ℕ → Bool → String Z
    → Type 0
LacksForParts {A} {S} kind gives from separator is_first old = (taken : List A) × (rest : S)
    × Yields gives from taken rest × LacksRoom old (parts_text kind separator is_first taken)

-- the text of all parameters that the iterator gives is appended to `old`
abbrev pub AppendsParameters : {S Z : Type 0} → Version
    → (S → Option (Bor (List ℕ) × Bor OwnedBareItem) → S → Type 0) → S → String Z → String Z → Type 0
AppendsParameters version gives from old new = TakesAll parameter_pairs version gives from
    (λ taken. string_bytes new ≡ string_bytes old ++ parts_text parameter_pairs [] true taken)
