-- A field of a request, from the bytes of its head. `httparse` defines a head (RFC 9112).
use Rattle.std.specs.Prelude.{◌≡◌, ◌≢◌, ℕ, List, [], Bool, Option, Some, None, map, filter, codes}
use Rattle.std.specs.Str.{str_eq_ignore_ascii_case}
use Rattle.httparse.specs.Grammar.{Field, field_value, RequestHead, ReadsRequest, NeverHasRequest}
use Rattle.httparse.specs.Spans.{RequestOverflows, RequestExceeds, IsRequestWithin, IsRequestOf}
use Rattle.httparse.specs.declared.spans.HeaderSpan.{HeaderSpan}
use Rattle.httparse.specs.declared.spans.RequestSpans.{RequestSpans}
use Rattle.httparse.specs.declared.Error.{Error}
use Rattle.httparse.specs.declared.Error.TheVariants.{TooManyHeaders}
use Rattle.sfv.specs.Texts.{joined}
use Rattle.sfv.specs.Types.{dictionary_field, Version}
use Rattle.sfv.specs.Errors.{out_of_memory, error_text}
use Rattle.sfv.specs.Parsers.{IsParseError}
use Rattle.sfv_http_fields.specs.Priority.{PriorityValue, IsPriorityOf}
use Rattle.sfv_http_fields.specs.declared.request.fault.RequestFault.{RequestFault}
use Rattle.sfv_http_fields.specs.declared.request.fault.RequestFault.TheVariants as faults

-- the line has this name; the case is ignored (RFC 9110, section 5.1)
abbrev pub is_named : List ℕ → Field → Bool
is_named name field = str_eq_ignore_ascii_case field.name name

-- the values of the lines with this name in order, with a comma and a space between neighbours (RFC 9110, sections 5.2
-- and 5.3)
abbrev pub field_text : List ℕ → List Field → List ℕ
field_text name fields = joined (codes ", ") (map field_value (filter (is_named name) fields))

-- the input begins with the head of a request, and this is the text of the head's field
abbrev pub IsRequestField : List ℕ → List ℕ → List ℕ → Type 0
IsRequestField name input text =
    (head : RequestHead) × (rest : List ℕ) × ReadsRequest input head rest × (text ≡ field_text name head.fields)

-- the front of `headers` has the fields of the head of this request
abbrev pub HoldsHead : List ℕ → List HeaderSpan → Type 0
HoldsHead input headers = (head : RequestSpans) × IsRequestWithin input headers head × IsRequestOf input headers head

-- the field `priority` of the request parses to this priority
abbrev pub IsRequestPriority : Version → List ℕ → PriorityValue → Type 0
IsRequestPriority version input p =
    (text : List ℕ) × IsRequestField (codes "priority") input text × IsPriorityOf version text p

-- Whatever bytes follow, a head at the start of the input has more fields than `room`. For an error other than too many
-- fields, no bytes complete a head. For too many fields, a prefix of the input and an empty line are a head with more
-- fields than `room`.
pub record IsHeadFault (room : ℕ) (input : List ℕ) (error : Error) : Type 0 where
  pub no_room : RequestOverflows room input
  pub invalid : error ≢ TooManyHeaders → NeverHasRequest input
  pub too_many : error ≡ TooManyHeaders → RequestExceeds room input

-- an error of the head; or out of memory, for a field whose text is not empty
abbrev pub IsFieldFault : List ℕ → ℕ → List ℕ → RequestFault → Type 0
IsFieldFault name room input (faults.Head error) = IsHeadFault room input error
IsFieldFault name room input (faults.Field error) =
    (error ≡ out_of_memory) × (text : List ℕ) × IsRequestField name input text × (text ≢ [])

-- an error of the head; or an error of the field, which is out of memory only if its text is not empty
abbrev pub IsRequestFault : Version → ℕ → List ℕ → RequestFault → Type 0
IsRequestFault version room input (faults.Head error) = IsHeadFault room input error
IsRequestFault version room input (faults.Field error) =
    (text : List ℕ) × IsRequestField (codes "priority") input text
    × IsParseError version dictionary_field text error × (error ≡ out_of_memory → text ≢ [])

-- the printed text of an error; for an error of the head it is not stated
abbrev pub printed : RequestFault → Option (List ℕ)
printed (faults.Head error) = None
printed (faults.Field error) = Some (error_text error)
