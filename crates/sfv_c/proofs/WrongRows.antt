-- Where rows go wrong.
use Rattle.std.proofs.Common.{◌≡◌, ℕ, ◌+◌, ◌<◌, List, [], ◌∷◌, ◌++◌, length, take, drop, sym, ◌∙◌, ap, subst, arith}
use Rattle.std.proofs.Common.{append_assoc}
use Rattle.sfv.specs.{Events.{TreeEvent, events}, Types.FieldKind}
use Rattle.sfv_c.specs.RowEvents.{ParseState, StopsAt, IsStuck, added, beginning}
use Rattle.sfv_c.specs.{Writing.{AreRowsOf, BeginRowsOfField, AreWrongAt}, declared.output.Output.Output}
use Rattle.sfv_c.{specs.declared.rows.Row.Row, proofs.Accepted.{begin_field, MayEnd, inside_map}}
use Rattle.sfv_c.proofs.{Places.adds_field, RowEvents.{reads_length, reads_valid, reads_rows, reads_taken, read_alike}}
use Rattle.sfv_c.proofs.{Stops.no_place, Valid.{AreValid, valid_first, field_valid}}

-- the rows where reading is stuck are those of no events that end a field
never_ends : (p : ParseState) (rest : List Row) (es : List TreeEvent) → IsStuck p rest → AreValid es
    → AreRowsOf rest es → MayEnd p es → ⊥
never_ends p [] [] k v h n = let e = k in let f = n.1 in cc
never_ends p [] (e ∷ es) k v h n = absurd h
never_ends p (r ∷ rs) [] k v h n = absurd h
never_ends p (r ∷ rs) (e ∷ es) k v h n = let w = no_place p e es (k e v.0 h.0) in let f = n.1 in cc

-- nor do events that go on after one row more
never_goes_on : (p : ParseState) (rest : List Row) (es more : List TreeEvent) → 0 < length rest → IsStuck p rest
    → AreValid es → AreRowsOf (take 1 rest) es → MayEnd p (es ++ more) → ⊥
never_goes_on p [] es more l k v h n = absurd (omega (arith, l))
never_goes_on p (r ∷ rs) [] more l k v h n = absurd h
never_goes_on p (r ∷ rs) (e ∷ es) more l k v h n = let w = no_place p e (es ++ more) (k e v.0 h.0) in let f = n.1 in cc

pub wrong_rows : (kind : FieldKind) (rows : List Row) (n : ℕ) (before now : Output)
    → StopsAt rows (beginning kind) 0 n before now → AreWrongAt kind rows n
wrong_rows kind rows n before now s =
    let es = s.writes.es in
    let rest = drop n rows in
    let read = s.writes.read in
    let valid = reads_valid rows es rest read in
    let count : n ≡ length es = omega (arith, s.writes.count) in
    let ends = λ (more : List TreeEvent) (h : MayEnd (beginning kind) (es ++ more)).
    inside_map s.writes.piece (added s.place more) h.0 (sym (s.writes.leads more) ∙ h.1) in
    record {
      within = omega (arith, count, reads_length rows es rest read);
      begun = subst (λ (m : ℕ). BeginRowsOfField kind (take m rows)) (sym count) (record {
        es = es;
        in_rows = reads_rows (take (length es) rows) es (reads_taken rows es rest 0 (length es) (omega arith) read);
        begins = begin_field kind es s.place s.writes.piece valid s.writes.leads;
      });
      wrong = λ l b.
          let v : AreValid b.es = valid_first b.es b.begins.more
          (subst AreValid b.begins.all (field_valid kind b.begins.raw b.begins.is_value)) in
          let i = read_alike (take (length es + 1) rows) es (take 1 rest) b.es (reads_taken rows es rest 1 (length es
          + 1) (omega arith) read) v (subst (λ (m : ℕ). AreRowsOf (take (m + 1) rows) b.es) count b.in_rows) in
          never_goes_on s.place rest i.0 b.begins.more (omega (arith, l, count, reads_length rows es rest read))
          s.stuck i.2 i.3 (ends (i.0 ++ b.begins.more) (
            _,
            ap (added (beginning kind)) (sym (append_assoc es i.0 b.begins.more) ∙ (ap (λ (x : List TreeEvent). x
                ++ b.begins.more) (sym i.1) ∙ sym b.begins.all)) ∙ adds_field kind b.begins.raw,
          ));
      no_field = λ raw f.
          let i = read_alike rows es rest (events kind raw) read (field_valid kind raw f.value) f.in_rows in
          never_ends s.place rest i.0 s.stuck i.2 i.3
          (ends i.0 (_, ap (added (beginning kind)) (sym i.1) ∙ adds_field kind raw));
    }
