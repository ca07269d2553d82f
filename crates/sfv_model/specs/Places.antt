-- The sources of a field's fault, and the places in it where a bare item or a key is parsed.
use Rattle.std.specs.Prelude.{◌≡◌, ℕ, Bool, true, false, List, [], ◌++◌, drop, ◌⊎◌, ◌||◌, ◌==◌, not, IsTrue, Err, codes}
use Rattle.sfv_spec.proofs.Marks.{left_parenthesis, right_parenthesis, is_space_or_tab}
use Rattle.sfv_spec.specs.Texts.{begins_with}
use Rattle.sfv_spec.specs.declared.field_kind.FieldKind.{FieldKind}
use Rattle.sfv_spec.specs.declared.version.Version.{Version}
use Rattle.sfv_spec.specs.Grammar.{IsAccepted}
use Rattle.sfv_spec.specs.declared.error_kind.ErrorKind.TheVariants.{TrailingComma, UnterminatedInnerList}
use Rattle.sfv_spec.specs.declared.error_kind.ErrorKind.TheVariants.{ExpectedStartOfBareItem}
use Rattle.sfv_spec.specs.Faults.{WantedFault}
use Rattle.sfv_spec.proofs.Marks.{WantsBetween}
use Rattle.sfv_model.specs.Commas.{IsTrailingComma}
use Rattle.sfv_model.specs.Reader.{Fault}
use Rattle.sfv_model.specs.Bare.{bare_at}
use Rattle.sfv_model.specs.Fields.{read_field}

-- the same fault, whatever the events before it
pub record IsLike (x e : Fault) : Type 0 where
  pub kind : x.kind ≡ e.kind
  pub rest : x.rest ≡ e.rest
  pub exact : x.exact ≡ e.exact

-- the fault is the fault of a bare item, which may follow `before`
pub record IsOfBare (version : Version) (kind : FieldKind) (t : List ℕ) (e : Fault) : Type 0 where
  pub before : List ℕ
  pub item : List ℕ
  pub place : WantsBetween version kind t before item
  pub fault : Fault
  pub is_fault : bare_at version item ≡ Err fault
  pub like : IsLike fault e

-- the fault is a trailing comma
pub record IsOfComma (version : Version) (kind : FieldKind) (t : List ℕ) (e : Fault) : Type 0 where
  pub index : ℕ
  pub here : drop index t ≡ e.rest
  pub kind_of : e.kind ≡ TrailingComma
  pub inexact : e.exact ≡ false
  pub trails : IsTrailingComma version kind t index

-- the construct that is expected after `before` is missing
pub record IsOfWanted (version : Version) (kind : FieldKind) (t : List ℕ) (e : Fault) : Type 0 where
  pub before : List ℕ
  pub text : t ≡ before ++ e.rest
  pub wanted : WantedFault version kind before e.kind

-- the text ends inside an inner list, right after the parenthesis or after an item
pub record IsOfOpenList (version : Version) (kind : FieldKind) (t : List ℕ) (e : Fault) : Type 0 where
  pub kind_of : e.kind ≡ UnterminatedInnerList
  pub rest : e.rest ≡ []
  pub closes : IsAccepted version kind (t ++ codes ")")
  pub no_space : (u : List ℕ) → ¬ (t ≡ u ++ codes " ")

-- Every fault of a field is one of four: a fault of a bare item, where one may follow; a trailing comma; a missing
-- expected construct; or an inner list without its end.
abbrev pub BareIsWanted : Type 0
BareIsWanted = (version : Version) (kind : FieldKind) (t : List ℕ) (e : Fault) → read_field version kind t ≡ Err e
    → IsOfBare version kind t e ⊎ (IsOfComma version kind t e
    ⊎ ((e.exact ≡ true) × (IsOfWanted version kind t e ⊎ IsOfOpenList version kind t e)))

-- neither a blank, which may come before a bare item, nor a parenthesis
abbrev pub is_beginning : ℕ → Bool
is_beginning c = not (is_space_or_tab c || (c == left_parenthesis || c == right_parenthesis))

-- if a bare item may follow, the fault of the bare item there is the fault of the field
abbrev pub WantedBareIsRead : Type 0
WantedBareIsRead = (version : Version) (kind : FieldKind) (t before s : List ℕ) (x : Fault)
    → WantsBetween version kind t before s → bare_at version s ≡ Err x
    → (¬ (x.kind ≡ ExpectedStartOfBareItem)) ⊎ IsTrue (begins_with is_beginning s)
    → (e : Fault) × (read_field version kind t ≡ Err e) × IsLike x e

-- if only a closing parenthesis is missing, right after the opening one or after an item, this is the fault
abbrev pub OpenListIsRead : Type 0
OpenListIsRead = (version : Version) (kind : FieldKind) (t : List ℕ) → IsAccepted version kind (t ++ codes ")")
    → ((u : List ℕ) → ¬ (t ≡ u ++ codes " "))
    → (e : Fault) × (read_field version kind t ≡ Err e) × (e.kind ≡ UnterminatedInnerList) × (e.rest ≡ [])
    × (e.exact ≡ true)
