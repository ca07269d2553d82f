-- A row that is put is kept.
use Rattle.std.proofs.Common.{◌≡◌, ◌+◌, length, refl, ap, arith}
use Rattle.sfv_c.specs.{Events.{counted, put_row, IsRowKept}, Rows.row_parts}
use Rattle.sfv_c.specs.declared.{events.Collector.Collector, rows.Row.Row}

pub row_kept : (before after : Collector) (row : Row) → after.rows.ghost_name ≡ before.rows.ghost_name
    → after.rows.now ≡ put_row before.rows.now before.count row → after.count ≡ counted (before.count + 1)
    → after.used ≡ counted (before.used + 0) → after.room.now ≡ before.room.now
    → IsRowKept before (row_parts row) 0 after
row_kept before after row same put count used room = record {
  row = row;
  same_rows = same;
  put = put;
  count = count;
  used = used;
  holds = λ h. (refl, omega (arith, ap length room));
}
