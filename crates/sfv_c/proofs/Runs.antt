-- The state of a collector after events.
use Rattle.std.proofs.Common.{◌≡◌, ℕ, ◌+◌, ◌-◌, ◌^◌, ◌<◌, ◌≤◌, Bool, true, List, [], ◌∷◌, ◌++◌, length, map, drop, refl}
use Rattle.std.proofs.Common.{ap, sym, ◌∙◌, if◌then◌else◌, subst, append_assoc, length-append, arith, nat_lt, slice_set}
use Rattle.std.{proofs.Common.{sum_by, MutBor, append-nil}, specs.List.{AllZip, FoldsTo}}
use Rattle.std.proofs.lemmas.{Bool.Decides.nat_tests, List.{length-map, set_at}, List.Sums.sum_by-cons}
use Rattle.sfv_tree.specs.declared.visitor.Event.{Event}
use Rattle.sfv.specs.{EventValues.event_of, Events.TreeEvent, Parsers.AreReadFrom, Types.Version}
use Rattle.sfv_c.specs.Events.{TakesRow, room_of, IsRowKept, AreCollected, counted, collector_of, put_row}
use Rattle.sfv_c.specs.{Rows.{numbers_of, IsRowOf}, declared.events.Collector.Collector, declared.rows.Row.Row}

-- the largest 64-bit number
abbrev most : ℕ
most = 2 ^ 64 - 1

-- the parts of a step
kept : (s : Collector) (e : Event) (t : Collector) → TakesRow s e t → IsRowKept s (numbers_of (event_of e)) (room_of e) t
kept s e t h = h

-- both counts only grow
grows : (es : List Event) (s last : Collector) → s.count ≤ most → s.used ≤ most → FoldsTo TakesRow s es last
    → (s.count ≤ last.count) × (s.used ≤ last.used)
grows [] s last c u h = (omega (arith, ap (λ (x : Collector). x.count) h), omega (arith, ap (λ (x : Collector). x.used) h))
grows (e ∷ es) s last c u h =
    let k = kept s e h.0 h.1 in
    let g = grows es h.0 last (omega (arith, k.count)) (omega (arith, k.used)) h.2 in
    (omega (arith, k.count, g.0), omega (arith, k.used, g.1))

-- the rows are those of the same reference
pub same_rows : (es : List Event) (s last : Collector) → FoldsTo TakesRow s es last
    → last.rows.ghost_name ≡ s.rows.ghost_name
same_rows [] s last h = ap (λ (x : Collector). x.rows.ghost_name) (sym h)
same_rows (e ∷ es) s last h = same_rows es h.0 last h.2 ∙ (kept s e h.0 h.1).same_rows

put_at : (done rest : List Row) (r row : Row) (rows : List Row) (n : ℕ) → rows ≡ done ++ r ∷ rest → length done ≡ n
    → put_row rows n row ≡ (done ++ row ∷ []) ++ rest
put_at done rest r row rows n e c =
    let l : length rows ≡ length done + length (r ∷ rest) = ap length e ∙ length-append done (r ∷ rest) in
    let t : nat_lt n (length rows) ≡ true = grind (arith, nat_tests) in
    subst (λ (b : Bool). (if b then slice_set rows n row else rows) ≡ (done ++ row ∷ []) ++ rest) (sym t)
    (ap (λ (x : List Row). slice_set x n row) e ∙ (set_at done r rest row n c ∙ sym (append_assoc done (row ∷ []) rest)))

-- what later rows do to a buffer that begins with the earlier ones
abbrev pub IsFilled : Collector → Collector → List Row → Type 0
IsFilled s last rows = (done rest : List Row) → s.rows.now ≡ done ++ rest → length done ≡ s.count
    → length rows ≤ length rest → length done + length rest < most
    → last.rows.now ≡ (done ++ rows) ++ drop (length rows) rest

fill : (s t last : Collector) (row : Row) (rows : List Row) → t.rows.now ≡ put_row s.rows.now s.count row
    → t.count ≡ counted (s.count + 1) → IsFilled t last rows → IsFilled s last (row ∷ rows)
fill s t last row rows p c later done [] a n l m = absurd (omega (arith, l))
fill s t last row rows p c later done (x ∷ rest) a n l m =
    let more : length (done ++ row ∷ []) ≡ length done + 1 = length-append done (row ∷ []) in
    later (done ++ row ∷ []) rest (p ∙ put_at done rest x row s.rows.now s.count a n) (omega (arith, more, c, n, m))
    (omega (arith, l)) (omega (arith, more, m))
    ∙ ap (λ (y : List Row). y ++ drop (length rows) rest) (append_assoc done (row ∷ []) rows)

-- the counts, the rows of the events if their texts fit, and the buffer if the rows fit
run : (room : ℕ) (es : List Event) (s last : Collector) → room < most → s.count ≤ most → s.used ≤ most
    → FoldsTo TakesRow s es last
    → (last.count ≡ counted (s.count + length es)) × (last.used ≡ counted (s.used + sum_by room_of es))
    × ((rows : List Row) × (length rows ≡ length es)
    × (s.used + length s.room.now ≡ room → last.used ≤ room → AllZip IsRowOf rows (map event_of es))
    × IsFilled s last rows)
run room [] s last r c u h = (
  omega (arith, ap (λ (x : Collector). x.count) h),
  omega (arith, ap (λ (x : Collector). x.used) h),
  (
    [],
    refl,
    λ b l. tt,
    λ done rest a n l m.
        ap (λ (x : Collector). x.rows.now) (sym h) ∙ (a ∙ ap (λ (x : List Row). x ++ rest) (sym (append-nil done))),
  ),
)
run room (e ∷ es) s last r c u h =
    let k = kept s e h.0 h.1 in
    let n : h.0.count ≤ most = omega (arith, k.count) in
    let m : h.0.used ≤ most = omega (arith, k.used) in
    let i = run room es h.0 last r n m h.2 in
    let g = grows es h.0 last n m h.2 in
    let total : sum_by room_of (e ∷ es) ≡ room_of e + sum_by room_of es = sum_by-cons room_of e es in
    let more = i.2 in (
      omega (arith, k.count, i.0),
      omega (arith, k.used, i.1, total),
      (
        k.row ∷ more.0,
        omega (arith, more.1),
        λ b l.
            let held = k.holds (omega (arith, b, k.used, g.1, l, r)) in
            let left : length h.0.room.now + room_of e ≡ length s.room.now = held.1 in
            (held.0, more.2 (omega (arith, left, b, k.used, r)) l),
        fill s h.0 last k.row more.0 k.put k.count more.3,
      ),
    )

-- the rows that a collector has written, and its counts
pub record AreCounted (version : Version) (es : List TreeEvent) (input : List ℕ) (old : List Row) (room : ℕ)
    (last : Collector) : Type 0 where
  pub rows : List Row
  pub collected : AreCollected version es input room rows last.used
  pub count : last.count ≡ counted (length rows)
  pub written : length rows ≤ length old → last.rows.now ≡ rows ++ drop (length rows) old

pub rows_read : (version : Version) (es : List TreeEvent) (input : List ℕ)
    (read : List Event) (rows : MutBor (List Row)) (room : MutBor (List ℕ)) (last : Collector)
    → map event_of read ≡ es → AreReadFrom version read input → length rows.now < most → length room.now < most
    → FoldsTo TakesRow (collector_of rows room) read last → AreCounted version es input rows.now (length room.now) last
rows_read version es input read rows room last e f n r h =
    let k = run (length room.now) read (collector_of rows room) last r (omega arith) (omega arith) h in
    let rows_are = k.2.0 in record {
      rows = rows_are;
      collected = record {
        read = read;
        events_of = e;
        read_from = f;
        used_is = omega (arith, k.1);
        count = k.2.1 ∙ (sym (length-map read event_of) ∙ ap length e);
        rows_of = λ u. subst (λ (x : List TreeEvent). AllZip IsRowOf rows_are x) e (k.2.2 (omega arith) u);
      };
      count = omega (arith, k.0, k.2.1);
      written = λ l. k.2.3 [] rows.now refl refl l (omega (arith, n));
    }
