-- The results of the C calls.
use Rattle.std.specs.Prelude.{◌≡◌, ◌<◌, ◌≤◌, ℕ, List, length, drop, ◌++◌, Option, Some, None, Result, Ok, Err, MatchOption}
use Rattle.sfv.specs.Values.{RawField, HasMember, bare_values}
use Rattle.sfv.specs.Types.{FieldKind, Version, Error, ErrorKind, HashSeed}
use Rattle.sfv.specs.Grammar.{IsAccepted}
use Rattle.sfv.specs.Statements.{IsParsedAs, IsSerializedAs}
use Rattle.sfv.specs.Parsers.{IsParseError, IsBuiltUnder}
use Rattle.sfv.specs.Memory.{HoldsMark, NeedsMemory}
use Rattle.sfv.specs.Messages.{message_of}
use Rattle.sfv.specs.Errors.{kind_of, index_of, out_of_memory}
use Rattle.sfv.specs.Versions.{IsSerializeError}
use Rattle.sfv.specs.Types.serialize_errors as serialize_errors
use Rattle.sfv_c.specs.declared.answer.Answer.{Answer}
use Rattle.sfv_c.specs.declared.answer.Written.{Written}
use Rattle.sfv_c.specs.declared.answer.Written.TheVariants as written
use Rattle.sfv_c.specs.declared.answer.CallFault.{CallFault}
use Rattle.sfv_c.specs.declared.answer.CallFault.TheVariants as faults
use Rattle.sfv_c.specs.Numbers.{kind_number, type_number, IsKindOf}

-- the result with these numbers
abbrev pub answer : ℕ → ℕ → ℕ → ℕ → ℕ → Answer
answer status kind index length events = record {
  status = status;
  kind = kind;
  index = index;
  length = length;
  events = events;
}

-- the result of writing: status 0 with the length, 1 if there is no member, 2 with the required length
abbrev pub written_answer : Written → Answer
written_answer (written.Text n) = answer 0 0 0 n 0
written_answer written.Nothing = answer 1 0 0 0 0
written_answer (written.TooSmall n) = answer 2 0 0 n 0

-- the result of an error: status 3 with kind and index, or 4 without index, for out of memory
abbrev pub refusal_at : Option ℕ → ErrorKind → Answer
refusal_at (Some index) kind = answer 3 (kind_number kind) index 0 0
refusal_at None kind = answer 4 (kind_number kind) 0 0 0

abbrev pub refusal : Error → Answer
refusal e = refusal_at (index_of e) (kind_of e)

-- the result for an argument without a meaning
abbrev pub bad_argument : Answer
bad_argument = answer 5 0 0 0 0

-- The result of an error of parsing or of writing. Status 6 has the kind of the unsupported value, and status 7 the
-- index of a row.
abbrev pub fault_answer : CallFault → Answer
fault_answer (faults.Read e) = refusal e
fault_answer (faults.Write serialize_errors.OutOfMemory) = refusal out_of_memory
fault_answer (faults.Write (serialize_errors.Unsupported kind)) = answer 6 (type_number kind) 0 0 0
fault_answer (faults.Rows n) = answer 7 0 n 0 0

-- The buffer begins with the text, and the rest of it is unchanged. Or the buffer is shorter than the text, and
-- unchanged.
abbrev pub Puts : List ℕ → List ℕ → List ℕ → Written → Type 0
Puts text old new (written.Text n) = (n ≡ length text) × (new ≡ text ++ drop n old)
Puts text old new written.Nothing = ⊥
Puts text old new (written.TooSmall n) = (n ≡ length text) × (length old < n) × (new ≡ old)

-- the same for a text, if there is one; otherwise the buffer is unchanged
abbrev pub PutsText : Option (List ℕ) → List ℕ → List ℕ → Written → Type 0
PutsText (Some text) old new w = Puts text old new w
PutsText None old new w = (w ≡ written.Nothing) × (new ≡ old)

-- the input parses to this value under the one version, and its text for the other is in the buffer
pub record IsPut (reading writing : Version) (kind : FieldKind) (input old new : List ℕ) (w : Written) : Type 0 where
  pub value : RawField kind
  pub parsed : IsParsedAs reading kind input value
  pub text : Option (List ℕ)
  pub serialized : IsSerializedAs writing kind value text
  pub put : PutsText text old new w

-- The input is rejected by the one version, or the other lacks a value of it. Parsing runs out of memory only if the
-- input may need it (`NeedsMemory`), and writing only if there is a member.
abbrev pub IsFault : Version → Version → FieldKind → List ℕ → CallFault → Type 0
IsFault reading writing kind input (faults.Read e) = IsParseError reading kind input e × NeedsMemory kind input e
IsFault reading writing kind input (faults.Write e) = (value : RawField kind) × IsParsedAs reading kind input value
    × HasMember kind value × IsSerializeError writing (bare_values kind value) e
IsFault reading writing kind input (faults.Rows n) = ⊥

-- the outcome of writing the canonical text, and the buffer after it
abbrev pub IsOutcome : Version → Version → FieldKind → List ℕ → List ℕ → List ℕ → Result Written CallFault → Type 0
IsOutcome reading writing kind input old new (Ok w) = IsPut reading writing kind input old new w
IsOutcome reading writing kind input old new (Err fault) = IsFault reading writing kind input fault × (new ≡ old)

-- the result for an outcome
abbrev pub outcome_answer : Result Written CallFault → Answer
outcome_answer (Ok w) = written_answer w
outcome_answer (Err fault) = fault_answer fault

-- The input is parsed and its value written, or one of both fails. The result encodes the outcome.
pub record IsCanonical (reading writing : Version) (kind : FieldKind) (input old new : List ℕ) (a : Answer)
    : Type 0 where
  pub outcome : Result Written CallFault
  pub is_outcome : IsOutcome reading writing kind input old new outcome
  pub in_numbers : a ≡ outcome_answer outcome

-- if the status is that of a parsed field, the maps of its value hash under this seed
abbrev pub IsBuiltIfWritten : HashSeed → Version → FieldKind → List ℕ → Answer → Type 0
IsBuiltIfWritten seed version kind input a = a.status ≤ 2 → IsBuiltUnder seed version kind input

-- the result of parsing without writing: accepted, or the error
abbrev pub check_answer : Option Error → Answer
check_answer None = answer 0 0 0 0 0
check_answer (Some e) = refusal e

-- the error of `parse`; out of memory only if the input contains an allocating byte
abbrev pub IsReadingError : Version → FieldKind → List ℕ → Error → Type 0
IsReadingError version kind input e = IsParseError version kind input e × (e ≡ out_of_memory → HoldsMark input)

-- the input is accepted, or has this error
abbrev pub IsJudged : Version → FieldKind → List ℕ → Option Error → Type 0
IsJudged version kind input None = IsAccepted version kind input
IsJudged version kind input (Some e) = IsReadingError version kind input e

-- the result says whether the input is accepted, and otherwise its error
pub record IsCheck (version : Version) (kind : FieldKind) (input : List ℕ) (a : Answer) : Type 0 where
  pub outcome : Option Error
  pub judged : IsJudged version kind input outcome
  pub in_numbers : a ≡ check_answer outcome

-- the message of this kind is in the buffer
pub record PutsMessage (kind : ErrorKind) (old new : List ℕ) (a : Answer) : Type 0 where
  pub w : Written
  pub put : Puts (message_of kind) old new w
  pub in_numbers : a ≡ written_answer w

-- the message of the kind with this number, or a bad argument if there is none
pub record IsMessage (n : ℕ) (old new : List ℕ) (a : Answer) : Type 0 where
  pub kind : Option ErrorKind
  pub numbered : IsKindOf n kind
  pub put : MatchOption kind ((a ≡ bad_argument) × (new ≡ old)) (λ kind. PutsMessage kind old new a)
