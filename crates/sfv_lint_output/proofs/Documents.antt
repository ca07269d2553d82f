-- The document of a report, one field at a time.
use Rattle.std.proofs.Common.{◌≡◌, ℕ, ◌+◌, ◌<◌, ◌≤◌, List, [], ◌∷◌, ◌++◌, length, take, get_or, false, map, codes, Ok}
use Rattle.std.{proofs.Common.{Err, Some, take_all}, specs.List.AllZip, specs.declared.alloc.Global.Global}
use Rattle.std.{specs.declared.vec.Vec.Vec, proofs.lemmas.List.{take_more, map-append}}
use Rattle.serde_json.specs.{Data.{Data, depth}, Read.{read, max_depth}}
use Rattle.serde_json.specs.{View.view, Written.{compact_text, has_float}, declared.value.Value.Value}
use Rattle.sfv.specs.Types.{Error}
use Rattle.sfv_lint_json.specs.Json.{array_json}
use Rattle.sfv_lint_report.specs.declared.{check.Accepted.Accepted, report.Field.Field}
use Rattle.sfv_lint_notes.specs.declared.notes.Note.{Note}
use Rattle.sfv_lint_output.specs.Documents.{accepted_json, rejected_json, names_json, IsFieldJson, IsDocument}
use Rattle.sfv_lint_output.{specs.Documents.IsDocumentText, proofs.Blocks.zip_push}
use Rattle.serde_json.specs.Data as json

pub accepted_field : (field : Field) (accepted : Accepted) (notes : List Note) (value : Data)
    → field.outcome ≡ Ok accepted → value ≡ accepted_json field accepted notes → IsFieldJson field value
accepted_field field accepted notes value outcome is = record { notes = notes; is = rw outcome is }

pub rejected_field : (field : Field) (error : Error) (value : Data) → field.outcome ≡ Err error
    → value ≡ rejected_json field error → IsFieldJson field value
rejected_field field error value outcome is = record { notes = []; is = rw outcome is }

pub one_more_field : (fields : List Field) (i : ℕ) (d : Field) (values : List Value) (value : Value) → i < length fields
    → AllZip IsFieldJson (take i fields) (map view values) → IsFieldJson (get_or fields i d) (view value)
    → AllZip IsFieldJson (take (i + 1) fields) (map view (values ++ value ∷ []))
one_more_field fields i d values value h so_far one = rw (take_more fields i d h, map-append view values (value ∷ []))
    (zip_push IsFieldJson (take i fields) (map view values) (get_or fields i d) (view value) so_far one)

pub all_fields : (fields : List Field) (n : ℕ) (values : List Value) → length fields ≤ n
    → AllZip IsFieldJson (take n fields) (map view values) → AllZip IsFieldJson fields (map view values)
all_fields fields n values long h = rw (take_all n fields long) at h

pub document : (fields : List Field) (others : List (Vec ℕ Global)) (values : List Value) (whole : Data)
    → AllZip IsFieldJson fields (map view values)
    → whole ≡ json.object (json.member (codes "fields") (array_json (map view values))
    (json.member (codes "others") (names_json others) json.no_members)) → IsDocument fields others whole
document fields others values whole are is = record { values = map view values; are = are; is = is }

-- the JSON of a document is written, and a line feed
pub document_text : (fields : List Field) (others : List (Vec ℕ Global)) (whole : Data) (compact new : List ℕ)
    → IsDocument fields others whole → (has_float whole ≡ false → compact ≡ compact_text whole)
    → (depth whole ≤ max_depth → read compact ≡ Some whole) → new ≡ compact ++ codes "\n"
    → IsDocumentText fields others new
document_text fields others whole compact new is exact parses line = record {
  document = whole;
  is_document = is;
  compact = compact;
  is = line;
  exact = exact;
  parses = parses;
}
