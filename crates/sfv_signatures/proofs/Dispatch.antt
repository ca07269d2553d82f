-- The value of a field by its parameters and its lines, and of a component of a message.
use Rattle.std.proofs.Common.{◌≡◌, ℕ, List, [], ◌∷◌, refl, sym, subst, inr, map, Option, Some, None, MatchOption, Bool}
use Rattle.std.proofs.Common.{true, false, Result, Ok, Err, slice_get, if◌then◌else◌, option_and_then, codes, Bor}
use Rattle.std.specs.{Char.is_ascii_uppercase, List.list_any}
use Rattle.std.specs.declared.{alloc.Global.Global, string.String.String}
use Rattle.http_header.specs.{FieldValue.FieldValue, HeaderMap.Entries, Token.lowercase}
use Rattle.sfv.specs.{Canonical.canonical, Types.{FieldKind, dictionary_field}, Values.RawParameters}
use Rattle.sfv_headers.specs.Lines.{lines_in}
use Rattle.sfv_signatures.specs.Components.{UnlessMemory, AppendsValue, lines_from}
use Rattle.sfv_signatures.specs.HttpMessages.{HttpGives, ValueGives, is_derived, fault_of, type_in, section_of, part_of}
use Rattle.sfv_signatures.specs.HttpMessages.{ParsedGives, FieldGives, LinesGive, member_of, plain_text, has}
use Rattle.sfv_signatures.specs.{HttpMessages.string_param, SignatureBase.IsChecked}
use Rattle.sfv_signatures.specs.declared.{base_error.BaseErrorKind.BaseErrorKind, http_message.HttpMessage.HttpMessage}
use Rattle.sfv_signatures.specs.declared.base_error.BaseErrorKind.TheVariants as kinds

-- a field of one type
pub of_kind : {T : Type 0} (kind k : FieldKind) (t : List ℕ) (old new : String Global) (r : Result T BaseErrorKind)
    → kind ≡ k → AppendsValue (ParsedGives k (λ value. Ok (canonical k value)) t) old new r
    → AppendsValue (ParsedGives kind (λ value. Ok (canonical kind value)) t) old new r
of_kind kind k t old new r h x =
    subst (λ (k : FieldKind). AppendsValue (ParsedGives k (λ value. Ok (canonical k value)) t) old new r) (sym h) x

-- ---- the value by its form

module _ {T : Type 0} (old new : String Global) (r : Result T BaseErrorKind) where
  pub with_key : (bs : Bool) (key : Option (List ℕ)) (sf : Bool) (type : Option FieldKind) (lines : List (List ℕ))
      (k t : List ℕ) → bs ≡ false → key ≡ Some k → t ≡ plain_text lines
      → AppendsValue (ParsedGives dictionary_field (member_of k) t) old new r
      → AppendsValue (FieldGives bs key sf type lines) old new r
  with_key bs key sf type lines k t h some e x = subst (λ b. AppendsValue (FieldGives b key sf type lines) old new r)
      (sym h) (subst (λ (o : Option (List ℕ)). AppendsValue (FieldGives false o sf type lines) old new r)
      (sym some) (subst (λ t. AppendsValue (ParsedGives dictionary_field (member_of k) t) old new r) e x))

  pub with_sf : (bs : Bool) (key : Option (List ℕ)) (sf : Bool) (type : Option FieldKind) (lines : List (List ℕ))
      (kind : FieldKind) (t : List ℕ) → bs ≡ false → key ≡ None → sf ≡ true → type ≡ Some kind → t ≡ plain_text lines
      → AppendsValue (ParsedGives kind (λ value. Ok (canonical kind value)) t) old new r
      → AppendsValue (FieldGives bs key sf type lines) old new r
  with_sf bs key sf type lines kind t h none k some e x =
      subst (λ b. AppendsValue (FieldGives b key sf type lines) old new r) (sym h)
      (subst (λ (o : Option (List ℕ)). AppendsValue (FieldGives false o sf type lines) old new r) (sym none)
      (subst (λ b. AppendsValue (FieldGives false None b type lines) old new r) (sym k)
      (subst (λ (o : Option FieldKind). AppendsValue (FieldGives false None true o lines) old new r) (sym some)
      (subst (λ t. AppendsValue (ParsedGives kind (λ value. Ok (canonical kind value)) t) old new r) e x))))

pub untyped : (bs : Bool) (key : Option (List ℕ)) (sf : Bool) (type : Option FieldKind) (lines : List (List ℕ))
    → bs ≡ false → key ≡ None → sf ≡ true → type ≡ None
    → UnlessMemory (λ k. IsChecked (FieldGives bs key sf type lines) (Err k)) kinds.UnknownType
untyped bs key sf type lines h none k unknown = inr (
  Err kinds.UnknownType,
  subst (λ b. FieldGives b key sf type lines (Err kinds.UnknownType)) (sym h)
      (subst (λ (o : Option (List ℕ)). FieldGives false o sf type lines (Err kinds.UnknownType)) (sym none)
      (subst (λ b. FieldGives false None b type lines (Err kinds.UnknownType)) (sym k)
      (subst (λ (o : Option FieldKind). FieldGives false None true o lines (Err kinds.UnknownType)) (sym unknown) refl))),
  refl,
)

-- ---- lines

pub none_first : {A B : Type 0} (f : A → B) (xs : List A) → None ≡ slice_get xs 0 → map f xs ≡ []
none_first f [] h = refl
none_first f (x ∷ xs) h = absurd (cc)

pub some_first : {A B : Type 0} (f : A → B) (xs : List A) (y : A) → Some y ≡ slice_get xs 0
    → slice_get (map f xs) 0 ≡ Some (f y)
some_first f [] y h = absurd (cc)
some_first f (x ∷ xs) y h = let same : y ≡ x = cc in cc

module _ (ps : RawParameters) (type : Option FieldKind) (lines : List (List ℕ)) where
  pub lines_absent : lines ≡ [] → UnlessMemory (λ k. IsChecked (LinesGive ps type lines) (Err k)) kinds.Absent
  lines_absent h = inr (
    Err kinds.Absent,
    subst (λ (ls : List (List ℕ)). LinesGive ps type ls (Err kinds.Absent)) (sym h) refl,
    refl,
  )

  pub lines_given : {T : Type 0} (old new : String Global) (r : Result T BaseErrorKind) (all : List (List ℕ)) (line : List ℕ)
      → lines ≡ all → slice_get all 0 ≡ Some line
      → AppendsValue (FieldGives (has (codes "bs") ps) (string_param (codes "key") ps) (has (codes "sf") ps) type all) old
      new r → AppendsValue (LinesGive ps type lines) old new r
  lines_given old new r all line e some x =
      subst (λ (ls : List (List ℕ)). AppendsValue (LinesGive ps type ls) old new r) (sym e)
      (subst (λ (first : Option (List ℕ)). AppendsValue (λ r. MatchOption first (r ≡ Err kinds.Absent) (λ _. FieldGives
      (has (codes "bs") ps) (string_param (codes "key") ps) (has (codes "sf") ps) type all r)) old new r) (sym some) x)

module _ (name : List ℕ) (fields : Bor (Entries FieldValue)) where
  pub upper_none : list_any is_ascii_uppercase name ≡ true → lines_from name (Some fields) ≡ []
  upper_none h = rw h refl

  pub lower_lines : list_any is_ascii_uppercase name ≡ false
      → lines_from name (Some fields) ≡ lines_in fields.now (lowercase name)
  lower_lines h = rw h refl

either : (b : Bool) (xs : List (List ℕ)) → (if b then xs else xs) ≡ xs
either true xs = refl
either false xs = refl

pub no_section : (name : List ℕ) → lines_from name None ≡ []
no_section name = either (list_any is_ascii_uppercase name) []

-- ---- messages

module _ (m : HttpMessage) (name : List ℕ) (ps : RawParameters) where
  abbrev By : Option BaseErrorKind → Bool → Result (List ℕ) BaseErrorKind → Type 0
  By fault derived r = MatchOption fault (ValueGives derived m name ps r) (λ kind. r ≡ Err kind)

  pub http_fault : (kind : BaseErrorKind) → Some kind ≡ fault_of name ps
      → UnlessMemory (λ k. IsChecked (HttpGives m name ps) (Err k)) kind
  http_fault kind h = inr (
    Err kind,
    subst (λ (fault : Option BaseErrorKind). By fault (is_derived name) (Err kind)) h refl,
    refl,
  )

  module _ {T : Type 0} (old new : String Global) (r : Result T BaseErrorKind) (sound : None ≡ fault_of name ps) where
    pub http_derived : is_derived name ≡ true → AppendsValue (ValueGives true m name ps) old new r
        → AppendsValue (HttpGives m name ps) old new r
    http_derived h x = subst (λ (fault : Option BaseErrorKind). AppendsValue
        (By fault (is_derived name)) old new r) sound (subst (λ b. AppendsValue (By None b) old new r) (sym h) x)

    pub http_field : (section : Option (Bor (Entries FieldValue))) → is_derived name ≡ false
        → section ≡ option_and_then (section_of ps) (part_of m ps)
        → AppendsValue (LinesGive ps (type_in m.types.now name) (lines_from name section)) old new r
        → AppendsValue (HttpGives m name ps) old new r
    http_field section h e x = subst (λ (fault : Option BaseErrorKind). AppendsValue
        (By fault (is_derived name)) old new r) sound (subst (λ b. AppendsValue (By None b) old new r)
        (sym h) (subst (λ (s : Option (Bor (Entries FieldValue))). AppendsValue
        (LinesGive ps (type_in m.types.now name) (lines_from name s)) old new r) e x))
