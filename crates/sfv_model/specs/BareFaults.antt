-- The faults of a bare item, and their rows in the tables of faults.
use Rattle.std.specs.Prelude.{◌≡◌, ℕ, ◌+◌, ◌-◌, true, false, List, ◌∷◌, ◌++◌, length, Err, ◌⊎◌, codes}
use Rattle.sfv_spec.proofs.Marks.{asterisk, question_mark}
use Rattle.sfv_spec.specs.Values.{BareValue}
use Rattle.sfv_spec.specs.declared.field_kind.FieldKind.{FieldKind}
use Rattle.sfv_spec.specs.declared.version.Version.{Version}
use Rattle.sfv_spec.specs.Grammar.{IsBareText}
use Rattle.sfv_model.specs.Commas.{IsTrailingComma}
use Rattle.sfv_spec.specs.declared.error_kind.ErrorKind.{ErrorKind}
use Rattle.sfv_spec.specs.declared.error_kind.ErrorKind.TheVariants.{TrailingComma, ExpectedStartOfBareItem}
use Rattle.sfv_spec.specs.Faults.{RuledFault, BareItemFault}
use Rattle.sfv_spec.proofs.Marks.{WantsBetween}
use Rattle.sfv_model.specs.Reader.{Fault}
use Rattle.sfv_model.specs.Bare.{bare_at}

-- A fault of a bare item, where a bare item may follow: an exact fault is a row of the table, or no bare item begins
-- there. Any other fault has a rule.
abbrev pub BareFaultHasRow : Type 0
BareFaultHasRow = (version : Version) (kind : FieldKind) (whole before s : List ℕ) (e : Fault)
    → WantsBetween version kind whole before s → bare_at version s ≡ Err e →
    ((e.exact ≡ true)
    × (((e.kind ≡ ExpectedStartOfBareItem) × (e.rest ≡ s)) ⊎ BareItemFault version s e.rest e.kind))
    ⊎ ((e.exact ≡ false) × RuledFault version kind whole e.kind (length whole - length e.rest))

-- the reader has the fault of each row, and it is exact
abbrev pub BareRowIsGiven : Type 0
BareRowIsGiven = (version : Version) (s there : List ℕ) (k : ErrorKind) → BareItemFault version s there k
    → (e : Fault) × (bare_at version s ≡ Err e) × (e.kind ≡ k) × (e.exact ≡ true) × (e.rest ≡ there)

-- In `whole`, a bare item may follow `before`, and `s` follows. The reader has the fault `k` there, by a rule, at
-- `index`.
pub record IsFaultInBare (version : Version) (type : FieldKind) (whole : List ℕ) (k : ErrorKind)
    (index : ℕ) : Type 0 where
  pub before : List ℕ
  pub s : List ℕ
  pub place : WantsBetween version type whole before s
  pub fault : Fault
  pub given : bare_at version s ≡ Err fault
  pub kind : fault.kind ≡ k
  pub exact : fault.exact ≡ false
  pub here : index + length fault.rest ≡ length whole

-- the reader has the fault of each rule, except the trailing comma, which is not in a bare item
abbrev pub RuledIsGiven : Type 0
RuledIsGiven = (version : Version) (kind : FieldKind) (whole : List ℕ) (k : ErrorKind) (index : ℕ)
    → RuledFault version kind whole k index →
    ((k ≡ TrailingComma) × IsTrailingComma version kind whole index) ⊎ IsFaultInBare version kind whole k index

-- if a question mark is in a bare item, but not first, two parentheses may be there as well
abbrev pub MarkInside : Type 0
MarkInside = (version : Version) (v : BareValue) (b : ℕ) (x c : List ℕ)
    → IsBareText version v (b ∷ x ++ question_mark ∷ c)
    → (w : BareValue) × (more : List ℕ) × IsBareText version w (b ∷ x ++ codes "((" ++ more)

-- if an asterisk is in a bare item, a digit may be there as well
abbrev pub AsteriskInside : Type 0
AsteriskInside = (version : Version) (v : BareValue) (x c : List ℕ) → IsBareText version v (x ++ asterisk ∷ c)
    → (w : BareValue) × (more : List ℕ) × IsBareText version w (x ++ codes "1" ++ more)
