-- The signature base (RFC 9421, section 2.5).
use Rattle.std.specs.Prelude.{◌≡◌, ◌≢◌, ℕ, List, [], ◌∷◌, ◌++◌, ◌⊎◌, ⊤, length, take, flat_map, Bool, not, ◌==◌, ◌||◌}
use Rattle.std.specs.Prelude.{codes, Any, if◌then◌else◌, nat_lt, slice_get, Result, Ok, Err, Some}
use Rattle.std.specs.List.{zip, list_any, list_all, AllByRecursion}
use Rattle.sfv.specs.Ascii.{byte}
use Rattle.sfv.specs.Texts.{RunOf}
use Rattle.sfv.specs.Values.{BareValue, string, RawParameters, RawItem, RawInnerList, inner_list}
use Rattle.sfv.specs.Types.{list_field}
use Rattle.sfv.specs.Ordered.{last_of}
use Rattle.sfv.specs.Canonical.{item_text, inner_list_text}
use Rattle.sfv.specs.Statements.{IsValue}
use Rattle.sfv_signatures.specs.declared.base_error.BaseErrorKind.{BaseErrorKind}
use Rattle.sfv_signatures.specs.declared.base_error.BaseErrorKind.TheVariants as kinds

-- ---- the text

-- signature-base-line: a component identifier, a colon, a space, and the value of the component
abbrev pub component_line : RawItem × List ℕ → List ℕ
component_line c = item_text c.0 ++ codes ": " ++ c.1

-- signature-params-line: the name `@signature-params`, a colon, a space, and the inner list with its parameters
abbrev pub params_line : RawInnerList → List ℕ
params_line l = codes "\"@signature-params\": " ++ inner_list_text l

-- signature-base = *( signature-base-line LF ) signature-params-line: for each identifier in order its line with the
-- value of its component and a line feed, and then the last line
abbrev pub base_text : RawInnerList → List (List ℕ) → List ℕ
base_text l values = flat_map (λ c. component_line c ++ codes "\n") (zip l.items values) ++ params_line l

-- ---- the rules

-- A message, as its components. `message name parameters r`: r is the value of the component with this name and these
-- parameters, or the rule that its identifier breaks.
abbrev pub Message : Type 1
Message = List ℕ → RawParameters → Result (List ℕ) BaseErrorKind → Type 0

-- c is a line feed or a carriage return
abbrev pub is_line_break : ℕ → Bool
is_line_break c = c == byte "\n" || c == byte "\r"

-- the value may follow in a line: it is ASCII, without line feeds and carriage returns
abbrev pub checked : Result (List ℕ) BaseErrorKind → Result (List ℕ) BaseErrorKind
checked (Err kind) = Err kind
checked (Ok value) = if not (list_all (λ c. nat_lt c 128) value) then Err kinds.NotAscii
    else if list_any is_line_break value then Err kinds.LineBreak else Ok value

-- r is the checked value, or the rule
abbrev pub IsChecked : (Result (List ℕ) BaseErrorKind → Type 0) → Result (List ℕ) BaseErrorKind → Type 0
IsChecked Gives r = (given : Result (List ℕ) BaseErrorKind) × Gives given × (r ≡ checked given)

-- r is the value of the component that an identifier names, or the rule that it breaks: an identifier is a string, and
-- not `@signature-params`
abbrev pub GivesFor : Message → RawParameters → BareValue → Result (List ℕ) BaseErrorKind → Type 0
GivesFor message parameters (string name) r = ((name ≡ codes "@signature-params") × (r ≡ Err kinds.SignatureParams))
    ⊎ ((name ≢ codes "@signature-params") × IsChecked (message name parameters) r)
GivesFor message parameters other r = r ≡ Err kinds.NotAString

-- each of these parameters is among the others, with the same value
abbrev pub AreWithin : RawParameters → RawParameters → Type 0
AreWithin parameters others = AllByRecursion (λ p. last_of p.0 others ≡ Some p.1) parameters

-- two identifiers are the same: their names are equal, and so are their parameters, in any order (section 2)
abbrev pub AreSame : RawItem → RawItem → Type 0
AreSame i j = (i.bare ≡ j.bare) × AreWithin i.parameters j.parameters × AreWithin j.parameters i.parameters

-- r is the value of the component that the identifier i names, or the rule that it breaks: it is none of the
-- identifiers `before`
abbrev pub Gives : Message → List RawItem → RawItem → Result (List ℕ) BaseErrorKind → Type 0
Gives message before i r = (Any (AreSame i) before × (r ≡ Err kinds.Repeated))
    ⊎ ((¬ Any (AreSame i) before) × GivesFor message i.parameters i.bare r)

-- each identifier in order, after the identifiers `pre`, has its value
abbrev pub HaveValues : Message → List RawItem → List RawItem → List (List ℕ) → Type 0
HaveValues message pre [] [] = ⊤
HaveValues message pre (i ∷ is) (v ∷ vs) = Gives message pre i (Ok v) × HaveValues message (pre ++ i ∷ []) is vs
HaveValues message pre is vs = ⊥

-- t is the base of the inner list and the message: the list is a value, and each identifier keeps the rules
pub record IsBaseOf (message : Message) (l : RawInnerList) (t : List ℕ) : Type 0 where
  pub list : IsValue list_field (inner_list l ∷ [])
  pub values : List (List ℕ)
  pub found : HaveValues message [] l.items values
  pub text : t ≡ base_text l values

-- the identifier at the index breaks this rule, and those before it have values
abbrev pub BreaksFirst : Message → RawInnerList → BaseErrorKind → ℕ → Type 0
BreaksFirst message l kind index = (i : RawItem) × (slice_get l.items index ≡ Some i)
    × Gives message (take index l.items) i (Err kind)
    × ((values : List (List ℕ)) × HaveValues message [] (take index l.items) values)

-- ---- laws

-- the inner list is a value, and there is one value for each identifier, without a line feed
pub record AreComponents (l : RawInnerList) (values : List (List ℕ)) : Type 0 where
  pub list : IsValue list_field (inner_list l ∷ [])
  pub counted : length values ≡ length l.items
  pub lines : AllByRecursion (RunOf (λ c. not (c == byte "\n"))) values

-- the base is unambiguous: one text has one ordered inner list and one value of each component
abbrev pub OneBase : Type 0
OneBase = (l m : RawInnerList) (v w : List (List ℕ)) → AreComponents l v → AreComponents m w
    → base_text l v ≡ base_text m w → (l ≡ m) × (v ≡ w)

-- each component of the list has the same value in both messages
abbrev pub AgreeOn : Message → Message → RawInnerList → Type 0
AgreeOn a b l = (values : List (List ℕ)) × HaveValues a [] l.items values × HaveValues b [] l.items values

-- if two messages have the same base, the inner lists are equal, and each component has the same value in both messages
abbrev pub OneMessage : Message → Message → Type 0
OneMessage a b = (l m : RawInnerList) (t : List ℕ) → IsBaseOf a l t → IsBaseOf b m t → (l ≡ m) × AgreeOn a b l

-- a message has one outcome for a component
abbrev pub HasOneOutcome : Message → Type 0
HasOneOutcome message = (name : List ℕ) (parameters : RawParameters) (r s : Result (List ℕ) BaseErrorKind)
    → message name parameters r → message name parameters s → r ≡ s

-- If a message has one outcome for each component, a list with an identifier that breaks a rule has no base, and its
-- first broken rule is at one index.
abbrev pub BaseOrRule : Message → Type 0
BaseOrRule message = HasOneOutcome message → (l : RawInnerList) (kind : BaseErrorKind) (index : ℕ)
    → BreaksFirst message l kind index → ((t : List ℕ) → ¬ IsBaseOf message l t)
    × ((other : BaseErrorKind) (place : ℕ) → BreaksFirst message l other place → (other ≡ kind) × (place ≡ index))
