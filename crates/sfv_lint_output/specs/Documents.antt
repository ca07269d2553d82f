-- A report as one JSON document.
use Rattle.std.specs.Prelude.{◌≡◌, ◌≤◌, ℕ, List, [], ◌++◌, Option, Some, None, Result, Ok, Err, map, codes}
use Rattle.std.specs.Prelude.{option_map, unwrap_or, string_bytes, false}
use Rattle.std.specs.List.{AllZip}
use Rattle.std.specs.Str.Lossy.{utf8_lossy}
use Rattle.std.specs.declared.alloc.Global.{Global}
use Rattle.std.specs.declared.vec.Vec.{Vec}
use Rattle.serde_json.specs.Data.{Data, depth}
use Rattle.serde_json.specs.Data as json
use Rattle.serde_json.specs.Read.{read, max_depth}
use Rattle.serde_json.specs.Written.{compact_text, has_float}
use Rattle.sfv.specs.Trees.{item_tree, list_tree, dictionary_tree}
use Rattle.sfv.specs.Errors.{kind_of as error_kind_of, index_of}
use Rattle.sfv.specs.Messages.{message_of}
use Rattle.sfv.specs.Types.{Error, FieldKind, item_field, list_field, dictionary_field}
use Rattle.sfv_lint_args.specs.Kinds.{kind_name}
use Rattle.sfv_lint_json.specs.Json.{array_json, field_json}
use Rattle.sfv_lint_notes.specs.Notes.{note_text}
use Rattle.sfv_lint_notes.specs.declared.notes.Note.{Note}
use Rattle.sfv_lint_report.specs.declared.check.Accepted.{Accepted}
use Rattle.sfv_lint_report.specs.declared.check.FieldValue.{FieldValue}
use Rattle.sfv_lint_report.specs.declared.check.FieldValue.TheVariants as values
use Rattle.sfv_lint_report.specs.declared.report.Field.{Field}

-- the word for a field type
abbrev pub kind_word : FieldKind → List ℕ
kind_word item_field = codes "item"
kind_word list_field = codes "list"
kind_word dictionary_field = codes "dict"

-- a value in the form of the HTTP working group's tests
abbrev pub value_json : FieldValue → Data
value_json (values.Item item) = field_json item_field (item_tree item)
value_json (values.List list) = field_json list_field (list_tree list.items)
value_json (values.Dictionary dictionary) = field_json dictionary_field (dictionary_tree dictionary.entries)

-- bytes as a string; bytes that are not UTF-8 are replaced
abbrev pub bytes_json : List ℕ → Data
bytes_json bytes = json.string (utf8_lossy bytes)

-- the index of an error, or null
abbrev pub index_json : Option ℕ → Data
index_json index = unwrap_or (option_map (λ i. json.number (json.unsigned i)) index) json.null

-- an error: its index, its kind and its message
abbrev pub error_json : Error → Data
error_json error = json.object (json.member (codes "index") (index_json (index_of error))
    (json.member (codes "kind") (json.string (kind_name (error_kind_of error)))
    (json.member (codes "message") (json.string (message_of (error_kind_of error))) json.no_members)))

-- notes, as an array of their texts
abbrev pub notes_json : List Note → Data
notes_json notes = array_json (map (λ note. json.string (note_text note)) notes)

-- an accepted field: its canonical text, its name, its notes, its type and its value
abbrev pub accepted_json : Field → Accepted → List Note → Data
accepted_json field accepted notes =
    json.object (json.member (codes "canonical") (json.string (unwrap_or (option_map string_bytes accepted.text) []))
    (json.member (codes "name") (bytes_json field.name.items)
    (json.member (codes "notes") (notes_json notes)
    (json.member (codes "type") (json.string (kind_word field.kind))
    (json.member (codes "value") (value_json accepted.value) json.no_members)))))

-- a rejected field: its error, its name and its type
abbrev pub rejected_json : Field → Error → Data
rejected_json field error = json.object (json.member (codes "error") (error_json error)
    (json.member (codes "name") (bytes_json field.name.items)
    (json.member (codes "type") (json.string (kind_word field.kind)) json.no_members)))

-- a field with these notes, by its outcome
abbrev pub outcome_json : Field → List Note → Result Accepted Error → Data
outcome_json field notes (Ok accepted) = accepted_json field accepted notes
outcome_json field notes (Err error) = rejected_json field error

-- the JSON of a field with its notes
pub record IsFieldJson (field : Field) (value : Data) : Type 0 where
  pub notes : List Note
  pub is : value ≡ outcome_json field notes field.outcome

-- the names of field lines, as an array
abbrev pub names_json : List (Vec ℕ Global) → Data
names_json names = array_json (map (λ name. bytes_json name.items) names)

-- the document of these fields, and of the names of the other field lines
pub record IsDocument (fields : List Field) (others : List (Vec ℕ Global)) (document : Data) : Type 0 where
  pub values : List Data
  pub are : AllZip IsFieldJson fields values
  pub is : document ≡ json.object (json.member (codes "fields") (array_json values)
      (json.member (codes "others") (names_json others) json.no_members))

-- The text is a document on one line. It is the compact text, if no number is a float. It parses to the document, if that
-- nests at most `max_depth` deep.
pub record IsDocumentText (fields : List Field) (others : List (Vec ℕ Global)) (text : List ℕ) : Type 0 where
  pub document : Data
  pub is_document : IsDocument fields others document
  pub compact : List ℕ
  pub is : text ≡ compact ++ codes "\n"
  pub exact : has_float document ≡ false → compact ≡ compact_text document
  pub parses : depth document ≤ max_depth → read compact ≡ Some document
