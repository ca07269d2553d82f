-- The requests of the program, and the results of a run.
use Rattle.std.specs.Prelude.{◌≡◌, ⊤, ℕ, List, [], ◌∷◌, ◌++◌, ◌⊎◌, Option, IfSome, codes}
use Rattle.std.specs.Io.KnownBytes.{Keeps, Appends}
use Rattle.sfv.specs.Types.{Version, item_field, list_field, dictionary_field}
use Rattle.sfv.specs.Types.versions as version
use Rattle.sfv.specs.Types.{FieldKind}
use Rattle.sfv_tool_lib.specs.declared.run.Request.{Request}
use Rattle.sfv_tool_lib.specs.declared.run.Request.TheVariants as request
use Rattle.sfv.specs.Parsers.{IsBuiltUnder}
use Rattle.sfv.specs.Types.{HashSeed}
use Rattle.sfv_tool_lib.specs.declared.answer.ToolFault.{ToolFault}
use Rattle.sfv_tool_lib.specs.declared.run.Failure.{Failure}
use Rattle.sfv_tool_lib.specs.declared.run.Failure.TheVariants as failures
use Rattle.sfv_tool_lib.specs.Answers.{IsAnswerTo, IsFaultFor, IsPriorityAnswer, IsPriorityFault}
use Rattle.sfv_tool_lib.specs.Answers.{without_newline, tool_fault_text}

-- the argument for a field type
abbrev pub field_word : FieldKind → List ℕ
field_word item_field = codes "item"
field_word list_field = codes "list"
field_word dictionary_field = codes "dict"

-- the argument for a version
abbrev pub version_word : Version → List ℕ
version_word version.Rfc8941 = codes "8941"
version_word version.Rfc9651 = codes "9651"

-- The arguments name this field type, the version to parse, and the version to write, which defaults to RFC 9651.
abbrev pub NamesField : List (List ℕ) → FieldKind → Version → Version → Type 0
NamesField words field reading writing =
    (words ≡ field_word field ∷ version_word reading ∷ version_word writing ∷ [])
    ⊎ ((words ≡ field_word field ∷ version_word reading ∷ []) × (writing ≡ version.Rfc9651))

-- the argument for the Priority field
abbrev pub priority_word : List ℕ
priority_word = codes "priority"

-- the arguments name the Priority field and the version to parse
abbrev pub NamesPriority : List (List ℕ) → Version → Type 0
NamesPriority words version = words ≡ priority_word ∷ version_word version ∷ []

abbrev pub Names : List (List ℕ) → Request → Type 0
Names words (request.Field field reading writing) = NamesField words field reading writing
Names words (request.Priority version) = NamesPriority words version

-- the output for the request and this input
abbrev pub IsAnswerFor : Request → List ℕ → List ℕ → Type 0
IsAnswerFor (request.Field field reading writing) input text = IsAnswerTo field reading writing input text
IsAnswerFor (request.Priority version) input text = IsPriorityAnswer version input text

-- the error of the request for this input
abbrev pub IsFaultOf : Request → List ℕ → ToolFault → Type 0
IsFaultOf (request.Field field reading writing) input fault = IsFaultFor field reading writing input fault
IsFaultOf (request.Priority version) input fault = IsPriorityFault version input fault

-- the request names a field type, not the Priority field
abbrev pub NamesFieldType : Request → Type 0
NamesFieldType (request.Field field reading writing) = ⊤
NamesFieldType (request.Priority version) = ⊥

-- a successful run: the result for the input is appended to the output
abbrev pub IsAnswered : Request → List ℕ → Option (List ℕ) → Option (List ℕ) → Type 0
IsAnswered request input output output' =
    (text : List ℕ) × IsAnswerFor request input text × Appends output output' text

-- each map of the parsed field hashes under this seed; the Priority field has no map
abbrev pub IsBuiltFor : HashSeed → Request → List ℕ → Type 0
IsBuiltFor seed (request.Field field reading writing) input =
    IsBuiltUnder seed reading field (without_newline input)
IsBuiltFor seed (request.Priority version) input = ⊤

-- The command has this error for the input, and the output is unchanged. Or it has a result, which may be written in
-- part.
abbrev pub IsFailed : Request → List ℕ → Option (List ℕ) → Option (List ℕ) → Failure → Type 0
IsFailed request input output output' (failures.Fault fault) =
    IsFaultOf request input fault × Keeps output output'
IsFailed request input output output' failures.UnwrittenOutput = (text : List ℕ) × IsAnswerFor request input text
IsFailed request input output output' failure = ⊥

-- the failure is of a command, not of the arguments or of the seed
abbrev pub IsOfCommand : Failure → Type 0
IsOfCommand failures.WrongArguments = ⊥
IsOfCommand failures.NoSeed = ⊥
IsOfCommand failure = ⊤

-- the failure of a read
abbrev pub IsReadFailure : Failure → Type 0
IsReadFailure failure = (failure ≡ failures.OutOfMemory) ⊎ (failure ≡ failures.UnreadableInput)

-- the input was not read to its end, and the output is unchanged
abbrev pub IsUnread : Failure → Option (List ℕ) → Option (List ℕ) → Type 0
IsUnread failure output output' = IsReadFailure failure × Keeps output output'

-- the message of a failure
abbrev pub failure_text : Failure → List ℕ
failure_text failures.WrongArguments =
    codes "usage: sfv_tool item|list|dict 8941|9651 [8941|9651] | priority 8941|9651"
failure_text failures.NoSeed = codes "error: no random seed"
failure_text failures.OutOfMemory = codes "error: out of memory"
failure_text failures.UnreadableInput = codes "error: cannot read input"
failure_text (failures.Fault fault) = codes "error: " ++ tool_fault_text fault
failure_text failures.UnwrittenOutput = codes "error: cannot write output"

-- the exit status of a failure: 2 for wrong arguments, otherwise 1
abbrev pub failure_status : Failure → ℕ
failure_status failures.WrongArguments = 2
failure_status failure = 1

-- the arguments name a request, and this holds of it
abbrev pub Requests : List (List ℕ) → (Request → Type 0) → Type 0
Requests words P = (request : Request) × Names words request × P request

-- the arguments name no field type with its versions
abbrev pub NamesNoField : List (List ℕ) → Type 0
NamesNoField words = (field : FieldKind) (reading writing : Version) → ¬ NamesField words field reading writing

-- the arguments do not name the Priority field with a version
abbrev pub NamesNoPriority : List (List ℕ) → Type 0
NamesNoPriority words = (version : Version) → ¬ NamesPriority words version

-- the arguments name no request
abbrev pub NamesNothing : List (List ℕ) → Type 0
NamesNothing words = (request : Request) → ¬ Names words request
