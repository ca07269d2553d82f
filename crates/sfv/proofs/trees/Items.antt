-- Whole items that are built.
use Rattle.std.proofs.Common.{◌≡◌, ℕ, true, false, List, Some, Ok, subst, inr, ◌⊎◌, is_some}
use Rattle.std.specs.declared.alloc.Global.{Global}
use Rattle.sfv_spec.specs.{Ordered.ordered_item, Statements.IsParsedAs}
use Rattle.sfv_spec.specs.{Values.RawItem, declared.error_kind.ErrorKind.TheVariants.TrailingCharactersAfterParsedValue}
use Rattle.sfv_spec.proofs.Marks.{is_space}
use Rattle.sfv_model.specs.{Bare.bare_at, Items.item_at, Reader.{first, span}}
use Rattle.sfv_base.specs.Errors.{error_of, out_of_memory}
use Rattle.sfv.specs.{Parsers.IsParseError, Types.{item_field, Error}}
use Rattle.sfv.specs.declared.parser.{Parser.Parser, cursor.Cursor.Cursor}
use Rattle.sfv.specs.parser.Cursor.{kept, kept_input, kept_version, input, version, rest, IsFaultOf}
use Rattle.sfv.proofs.{Parsed.{parsed, parse_error}, trees.Errors.{fault_with, field_fails}, trees.Parts.bare_fails}
use Rattle.sfv.proofs.visits.Whole.{field_faulty, field_trailing_error, field_done}

-- after the leading spaces
module _ (k : Parser × Global) (s r : List ℕ) (skipped : span is_space (kept_input k) ≡ Ok (s, r)) where
  pub item_rejected : (e : Error) → (e ≡ out_of_memory) ⊎ IsFaultOf (kept_input k) e (item_at (kept_version k) r)
      → IsParseError (kept_version k) item_field (kept_input k) e
  item_rejected e h = field_fails (kept_version k) item_field (kept_input k) e (item_at (kept_version k) r)
      (λ kind q. field_faulty (kept_version k) (kept_input k) s r kind q skipped) h

  module _ (q spaces : List ℕ) (after : Cursor) (raw : RawItem) (read : item_at (kept_version k) r ≡ Ok (raw, q))
      (skipped_more : span is_space q ≡ Ok (spaces, rest after)) where
    pub item_trailing : kept after ≡ k → is_some (first (rest after)) ≡ true
        → IsParseError (kept_version k) item_field (kept_input k)
        (error_of TrailingCharactersAfterParsedValue (Some after.index))
    item_trailing same some = parse_error (kept_version k) item_field (kept_input k)
        (error_of TrailingCharactersAfterParsedValue (Some after.index)) (field_trailing_error (kept_version k)
        (kept_input k) s r q spaces after k raw same skipped read skipped_more some)

    pub item_read : (value : RawItem) → is_some (first (rest after)) ≡ false → value ≡ ordered_item raw
        → IsParsedAs (kept_version k) item_field (kept_input k) value
    item_read value none built = parsed (kept_version k) item_field (kept_input k) raw value
        (field_done (kept_version k) (kept_input k) s r q spaces (rest after) raw skipped read skipped_more none) built

-- no item begins after the leading spaces
pub start_rejected : (k : Parser × Global) (before : Cursor) (s : List ℕ) → kept before ≡ k
    → span is_space (kept_input k) ≡ Ok (s, rest before) → (e : Error)
    → IsFaultOf (input before) e (bare_at (version before) (rest before))
    → IsParseError (kept_version k) item_field (kept_input k) e
start_rejected k before s same skipped e fault = item_rejected k s (rest before) skipped e
    (inr (fault_with (kept_input k) e _ _ (bare_fails (kept_version k) (rest before))
    (subst (λ (k : Parser × Global). IsFaultOf (kept_input k) e (bare_at (kept_version k) (rest before))) same fault)))
