-- The lines on fields, one field more at a time.
use Rattle.std.proofs.Common.{◌≡◌, ℕ, ◌+◌, ◌<◌, ◌≤◌, List, [], ◌∷◌, ◌++◌, Bool, true, length, take, get_or, refl, sym}
use Rattle.std.{proofs.Common.{ap, ◌∙◌, append_assoc, append-nil, flat_map, take_all}, specs.List.{AllZip, concat}}
use Rattle.std.proofs.lemmas.List.{take_more, Folds.concat-append}
use Rattle.sfv_lint_head.specs.declared.paint.Colors.{Colors}
use Rattle.sfv_lint_report.specs.{Prints.{field_text, summary_text}, Reports.has_error}
use Rattle.sfv_lint_report.specs.declared.report.{Field.Field, Report.Report}
use Rattle.sfv_lint_notes.specs.declared.notes.Note.{Note}
use Rattle.sfv_lint_output.specs.Lines.{IsBlock, AppendsBlock, AppendsBlocks, AppendsNotes, IsPrinted, note_line}
use Rattle.sfv_lint_output.specs.Lines.{tree_lines, named_others}

pub zip_push : {A B : Type 0} (R : A → B → Type 0) (xs : List A) (ys : List B) (x : A) (y : B) → AllZip R xs ys → R x y
    → AllZip R (xs ++ x ∷ []) (ys ++ y ∷ [])
zip_push R [] [] x y h is = (is, tt)
zip_push R [] (z ∷ ys) x y h is = absurd h
zip_push R (w ∷ xs) [] x y h is = absurd h
zip_push R (w ∷ xs) (z ∷ ys) x y h is = (h.0, zip_push R xs ys x y h.1 is)

module _ (colors : Colors) (tree : Bool) where
  -- the notes are appended
  pub notes_appended : (field : Field) (notes : List Note) (old new : List ℕ) → (has_error field ≡ true → notes ≡ [])
      → new ≡ old ++ flat_map (note_line colors) notes → AppendsNotes colors field old new
  notes_appended field notes old new none is = record { notes = notes; rejected = none; is = is }

  -- a field is printed: its report, its tree and its notes
  pub block : (field : Field) (old first second new : List ℕ) → first ≡ old ++ field_text colors field
      → second ≡ first ++ tree_lines tree field → AppendsNotes colors field second new
      → AppendsBlock colors tree field old new
  block field old first second new is lines notes = record {
    text = field_text colors field ++ tree_lines tree field ++ flat_map (note_line colors) notes.notes;
    block = record { notes = notes.notes; is = refl; rejected = notes.rejected };
    is = rw (notes.is, lines, is) (ap (λ t. t ++ flat_map (note_line colors) notes.notes)
        (append_assoc old (field_text colors field) (tree_lines tree field))
        ∙ append_assoc old (field_text colors field ++ tree_lines tree field) (flat_map (note_line colors) notes.notes));
  }

  pub no_blocks : (old : List ℕ) → AppendsBlocks colors tree [] old old
  no_blocks old = record { blocks = []; are = tt; is = sym (append-nil old) }

  pub one_more_block : (fields : List Field) (i : ℕ) (d : Field) (start now new : List ℕ) → i < length fields
      → AppendsBlocks colors tree (take i fields) start now → AppendsBlock colors tree (get_or fields i d) now new
      → AppendsBlocks colors tree (take (i + 1) fields) start new
  one_more_block fields i d start now new h so_far one = record {
    blocks = so_far.blocks ++ one.text ∷ [];
    are = rw (take_more fields i d h) (zip_push (IsBlock colors tree) (take i fields) so_far.blocks (get_or fields i d)
        one.text so_far.are one.block);
    is = rw (one.is, so_far.is, concat-append so_far.blocks (one.text ∷ []), append-nil one.text)
        (append_assoc start (concat so_far.blocks) one.text);
  }

  pub all_blocks : (fields : List Field) (n : ℕ) (old new : List ℕ) → length fields ≤ n
      → AppendsBlocks colors tree (take n fields) old new → AppendsBlocks colors tree fields old new
  all_blocks fields n old new long h = rw (take_all n fields long) at h

  -- a head is printed: its fields, the other names, and the counts
  pub printed : (all : Bool) (report : Report) (old first second new : List ℕ) → old ≡ []
      → AppendsBlocks colors tree report.fields.items old first → second ≡ first ++ named_others all report
      → new ≡ second ++ summary_text report → IsPrinted colors tree all report new
  printed all report old first second new none fields others counts = record {
    blocks = fields.blocks;
    are = fields.are;
    is = rw (counts, others, fields.is, none) refl;
  }
