-- Rows and the events that they are.
use Rattle.std.proofs.Common.{◌≡◌, ℕ, zero, suc, ◌+◌, List, [], ◌∷◌, ◌++◌, length, take, refl, sym, ◌∙◌, ap, subst}
use Rattle.std.{proofs.Common.{arith, get_or, drop}, specs.Array.IsFirstChunk}
use Rattle.sfv.specs.Events.{TreeEvent}
use Rattle.sfv_c.specs.{RowEvents.Reads, Rows.IsRowOf, Writing.AreRowsOf, declared.rows.Row.Row}
use Rattle.sfv_c.proofs.{Unique.same_event, Valid.AreValid}

-- a row is that of one event alone
pub only_event : (row : Row) (a b : TreeEvent) → IsRowOf row a → IsRowOf row b → a ≡ b
only_event row a b h k = same_event a b (sym h ∙ k)

-- further
pub reads_on : (rows : List Row) (es : List TreeEvent) (mid : List Row) (more : List TreeEvent) (rest : List Row)
    → Reads rows es mid → Reads mid more rest → Reads rows (es ++ more) rest
reads_on rows [] mid more rest h k = subst (λ (r : List Row). Reads r more rest) (sym h) k
reads_on [] (e ∷ es) mid more rest h k = absurd h
reads_on (r ∷ rs) (e ∷ es) mid more rest h k = (h.0, h.1, reads_on rs es mid more rest h.2 k)

pub reads_length : (rows : List Row) (es : List TreeEvent) (rest : List Row) → Reads rows es rest
    → length rows ≡ length es + length rest
reads_length rows [] rest h = omega (arith, ap length h)
reads_length [] (e ∷ es) rest h = absurd h
reads_length (r ∷ rs) (e ∷ es) rest h = omega (arith, reads_length rs es rest h.2)

pub reads_valid : (rows : List Row) (es : List TreeEvent) (rest : List Row) → Reads rows es rest → AreValid es
reads_valid rows [] rest h = tt
reads_valid [] (e ∷ es) rest h = absurd h
reads_valid (r ∷ rs) (e ∷ es) rest h = (h.0, reads_valid rs es rest h.2)

pub reads_rows : (rows : List Row) (es : List TreeEvent) → Reads rows es [] → AreRowsOf rows es
reads_rows [] [] h = tt
reads_rows (r ∷ rs) [] h = absurd (cc)
reads_rows [] (e ∷ es) h = absurd h
reads_rows (r ∷ rs) (e ∷ es) h = (h.1, reads_rows rs es h.2)

pub rows_length : (rows : List Row) (es : List TreeEvent) → AreRowsOf rows es → length rows ≡ length es
rows_length [] [] h = refl
rows_length [] (e ∷ es) h = absurd h
rows_length (r ∷ rs) [] h = absurd h
rows_length (r ∷ rs) (e ∷ es) h = omega (arith, rows_length rs es h.1)

-- the rows that are read, and so many more
pub reads_taken : (rows : List Row) (es : List TreeEvent) (rest : List Row) (k n : ℕ) → n ≡ length es + k
    → Reads rows es rest → Reads (take n rows) es (take k rest)
reads_taken rows [] rest k n q h = subst (λ (m : ℕ). take m rows ≡ take k rest) (omega (arith, q)) (ap (take k) h)
reads_taken [] (e ∷ es) rest k n q h = absurd h
reads_taken (r ∷ rs) (e ∷ es) rest k zero q h = absurd (omega (arith, q))
reads_taken (r ∷ rs) (e ∷ es) rest k (suc m) q h = (h.0, h.1, reads_taken rs es rest k m (omega (arith, q)) h.2)

-- all rows that were read have the events that they were read as
pub read_alike : (rows : List Row) (es : List TreeEvent) (rest : List Row) (others : List TreeEvent)
    → Reads rows es rest → AreValid others → AreRowsOf rows others
    → (more : List TreeEvent) × (others ≡ es ++ more) × AreValid more × AreRowsOf rest more
read_alike rows [] rest others d v h = (others, refl, v, subst (λ (r : List Row). AreRowsOf r others) d h)
read_alike [] (e ∷ es) rest others d v h = absurd d
read_alike (r ∷ rs) (e ∷ es) rest [] d v h = absurd h
read_alike (r ∷ rs) (e ∷ es) rest (o ∷ os) d v h =
    let i = read_alike rs es rest os d.2 v.1 h.1 in
    let x : o ≡ e = only_event r o e h.0 d.1 in
    let y = i.1 in
    (i.0, cc, i.2, i.3)

-- the first rows are those of the first events
pub rows_first : (n : ℕ) (rows : List Row) (es : List TreeEvent) → AreRowsOf rows es
    → AreRowsOf (take n rows) (take n es)
rows_first zero rows es h = tt
rows_first (suc n) [] [] h = tt
rows_first (suc n) [] (e ∷ es) h = absurd h
rows_first (suc n) (r ∷ rs) [] h = absurd h
rows_first (suc n) (r ∷ rs) (e ∷ es) h = (h.0, rows_first n rs es h.1)

-- the first four rows
pub four_rows : (rows chunk : List Row) (d : Row) → IsFirstChunk rows chunk 4
    → rows ≡ get_or chunk 0 d ∷ get_or chunk 1 d ∷ get_or chunk 2 d ∷ get_or chunk 3 d ∷ drop 4 rows
four_rows (a ∷ b ∷ c ∷ e ∷ rest) chunk d h = rw h.same refl
four_rows (a ∷ b ∷ c ∷ []) chunk d h = absurd (omega (arith, h.enough))
four_rows (a ∷ b ∷ []) chunk d h = absurd (omega (arith, h.enough))
four_rows (a ∷ []) chunk d h = absurd (omega (arith, h.enough))
four_rows [] chunk d h = absurd (omega (arith, h.enough))
