use Rattle.std.proofs.Common.{◌≡◌, drop, bytes_eq, find}
use Rattle.sfv_signatures.proofs.rows.text_in.Given as goal

abbrev pub invariant-loop-row : goal.invariant-loop-row
invariant-loop-row l = find (λ row. bytes_eq row.0.now l.name) (drop l.row-index l.rows)
    ≡ find (λ row. bytes_eq row.0.now l.name) l.rows
