-- What an answer of the reading says of the text, in the words of the definitions.
use Rattle.std.proofs.Common.{◌≡◌, ℕ, ◌≤◌, ◌-◌, List, length, drop, Option, Some, None, Result, Ok, Err, refl, sym, ap}
use Rattle.std.proofs.Common.{subst, ◌∙◌, inl, inr, arith, MatchOption, length-drop}
use Rattle.sfv_spec.{specs.declared.error_kind.ErrorKind.TheVariants.OutOfMemory, proofs.Structure.one_field_lem}
use Rattle.sfv_model.specs.{Fields.read_field, Reader.Fault}
use Rattle.sfv_model.proofs.{FaultTable.{fault_is_at, fault_rejects}, Theorems.read_is_accepted}
use Rattle.sfv_base.specs.{Errors.error_of, declared.error.Error.Error}
use Rattle.sfv.specs.Field.{RawField, FieldKind, Version, IsFaultAt, ordered, IsParsedAs, ErrorKind, out_of_memory}
use Rattle.sfv.specs.{Field.IsParseError, Memory.IsRefusal, parser.Cursor.located_whole}

-- a field that was read is the one that the grammar gives
pub parsed : (version : Version) (kind : FieldKind) (t : List ℕ) (raw value : RawField kind)
    → read_field version kind t ≡ Ok raw → value ≡ ordered kind raw → IsParsedAs version kind t value
parsed version kind t raw value e o =
    let accepted = (read_is_accepted version kind t raw).0 e in
    record {
      raw = raw;
      accepted = accepted;
      only = λ other h. one_field_lem version kind t other raw h accepted;
      holds = o;
    }

-- the reader's fault, by its index
located_at : (version : Version) (kind : FieldKind) (t : List ℕ) (f : Fault) (index : ℕ)
    → read_field version kind t ≡ Err f → drop index t ≡ f.rest → index ≤ length t
    → IsFaultAt version kind t f.kind index
located_at version kind t f index e here le =
    let n = ap (length {A = ℕ}) here in
    let same : length t - length f.rest ≡ index = omega (arith, n, length-drop index t, le) in
    subst (IsFaultAt version kind t f.kind) same (fault_is_at version kind t f e)

-- an error by its kind and its index
pub unnamed : (e : Error) → e.index ≡ None → e.kind ≡ OutOfMemory → e ≡ out_of_memory
unnamed e i k = ap (λ (o : Option ℕ). error_of e.kind o) i ∙ ap (λ (kind : ErrorKind). error_of kind None) k

pub located_fault : {A : Type 0} (answer : Result A Fault) (k : ErrorKind) (r : List ℕ)
    → located_whole answer ≡ Err (k, r) → (f : Fault) × (answer ≡ Err f) × (f.kind ≡ k) × (f.rest ≡ r)
located_fault (Ok v) k r h = absurd cc
located_fault (Err f) k r h =
    let there : ErrorKind × List ℕ = (k, r) in
    let here : ErrorKind × List ℕ = (f.kind, f.rest) in
    let e : here ≡ there = cc in
    (f, refl, ap (λ (p : ErrorKind × List ℕ). p.0) e, ap (λ (p : ErrorKind × List ℕ). p.1) e)

-- an error of the reading is out of memory, or the fault of the text
pub parse_error : (version : Version) (kind : FieldKind) (t : List ℕ) (e : Error)
    → MatchOption e.index (IsRefusal t e) (λ index. (located_whole (read_field version kind t)
    ≡ Err (e.kind, drop index t)) × (index ≤ length t)) → IsParseError version kind t e
parse_error version kind t e = on e.index refl
  where
    on : (o : Option ℕ) → e.index ≡ o → MatchOption o (IsRefusal t e) (λ index. (located_whole (read_field version kind t) ≡ Err (e.kind, drop index t))
        × (index ≤ length t)) → IsParseError version kind t e
    on None i h = inl (unnamed e i h.0)
    on (Some index) i h =
        let f = located_fault (read_field version kind t) e.kind (drop index t) h.0 in
        let same : e ≡ error_of f.0.kind (Some index) = ap (λ (o : Option ℕ). error_of e.kind o) i
        ∙ ap (λ (kind : ErrorKind). error_of kind (Some index)) (sym f.2) in
        let there = located_at version kind t f.0 index f.1 (sym f.3) h.1 in
        inr (record {
          fault = f.0.kind;
          index = index;
          error = same;
          rejected = (fault_rejects version kind t f.0.kind index there).0;
          within = h.1;
          located = there;
        })
