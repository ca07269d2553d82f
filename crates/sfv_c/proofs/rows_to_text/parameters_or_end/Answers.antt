use Rattle.std.proofs.Common.{refl}
use Rattle.sfv.specs.Events.{parameters_end}
use Rattle.sfv_c.proofs.Stops.{writes_row, appends_none}
use Rattle.sfv_c.proofs.rows_to_text.parameters_or_end.Goals as goal

pub returns-then-is_plain : goal.returns-then-is_plain
returns-then-is_plain c p =
    writes_row parameters_end c.in-Some.ensures.1 tt (c.if-is_plain.ensures.0 refl) refl (appends_none _)
