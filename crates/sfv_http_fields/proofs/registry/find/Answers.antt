use Rattle.std.specs.Str.{str_eq_ignore_ascii_case}
use Rattle.sfv_http_fields.proofs.Rows.{row_found, row_passed}
use Rattle.sfv_http_fields.proofs.registry.find.Goals as goal

pub returns-then-is_named : goal.returns-then-is_named
returns-then-is_named c = row_found (str_eq_ignore_ascii_case c.args.name.now) (λ row. (row.0.now, row.1)) c.args.rows.now c.loop-registered.registered-index
    _ c.loop-registered-test.true c.loop-registered.invariant c.if-is_named.ensures

pub loop-registered-preserved : goal.loop-registered-preserved
loop-registered-preserved c = row_passed (str_eq_ignore_ascii_case c.args.name.now) (λ row. (row.0.now, row.1)) c.args.rows.now c.loop-registered.registered-index
    _ c.loop-registered-test.true c.loop-registered.invariant c.if-is_named.ensures
