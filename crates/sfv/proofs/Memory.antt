-- Texts for which a reading asks for memory.
use Rattle.std.proofs.Common.{ℕ, List, ◌∷◌, Result, Ok, Err, subst, arith, IfErr, Contains}
use Rattle.std.proofs.lemmas.List.Elements.{Contains-get_or}
use Rattle.sfv_base.specs.declared.error.{Error.Error, ParseError.ParseError, ParseError.TheVariants.{Syntax, Visitor}}
use Rattle.sfv.specs.{Field.{FieldKind, Version, TreeEvent}, Memory.NeedsMark, parser.Visits.VisitsField}

-- ---- a byte of a text

pub first_in : (c : ℕ) (t : List ℕ) → Contains (c ∷ t) c
first_in c t = Contains-get_or (c ∷ t) 0 0 (omega arith)

-- ---- a reading with a visitor

-- out of memory comes only of a text with a mark
pub visits_memory : {S O E : Type 0} (takes : S → TreeEvent → S → Type 0) (fails : S → TreeEvent → E → Type 0)
    (finishes : S → O → Type 0) (finish_fails : S → E → Type 0) (version : Version) (kind : FieldKind) (t : List ℕ)
    (from : S) (r : Result O (ParseError E)) → VisitsField takes fails finishes finish_fails version kind t from r
    → IfErr r (NeedsMark t)
visits_memory takes fails finishes finish_fails version kind t from (Ok out) h = tt
visits_memory takes fails finishes finish_fails version kind t from (Err (Syntax e)) h = λ same.
    (subst (λ (e : Error). VisitsField takes fails finishes finish_fails version kind t from (Err (Syntax e))) same h).0.1
visits_memory takes fails finishes finish_fails version kind t from (Err (Visitor f)) h = tt
