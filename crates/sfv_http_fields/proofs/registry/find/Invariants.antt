use Rattle.std.{proofs.Common.{◌≡◌, map, drop}, specs.Map.lookup, specs.Str.str_eq_ignore_ascii_case}
use Rattle.sfv_http_fields.proofs.registry.find.Given as goal

abbrev pub invariant-loop-registered : goal.invariant-loop-registered
invariant-loop-registered l = lookup (str_eq_ignore_ascii_case l.name) (map (λ row. (row.0.now, row.1)) l.rows)
    ≡ lookup (str_eq_ignore_ascii_case l.name) (map (λ row. (row.0.now, row.1)) (drop l.registered-index l.rows))
