use Rattle.std.proofs.Common.{◌∙◌, true}
use Rattle.sfv.proofs.reads.{Errors.left_with, Steps.{date_integer, date_decimal, date_fault}}
use Rattle.sfv.proofs.parser.cursor.Cursor.date.Goals as goal

pub returns-in_err-seconds : goal.returns-in_err-seconds
returns-in_err-seconds c = rw (left_with c.from_residual.ensures.1)
    (date_fault _ _ _ _ _ c.requires c.skip.ensures.skips c.skip.ensures.kept (c.in_err-seconds.ensures true))

pub returns-in-Integer : goal.returns-in-Integer
returns-in-Integer c =
    let n = rw c.in-Integer.is at (c.in_ok-seconds.ensures true) in (
      rw c.from_unix_seconds.ensures (date_integer _ _ _ _ c.requires c.skip.ensures.skips n.0),
      n.1 ∙ c.skip.ensures.kept,
    )

pub returns-in-Decimal : goal.returns-in-Decimal
returns-in-Decimal c =
    let n = rw c.in-Decimal.is at (c.in_ok-seconds.ensures true) in
    rw c.at.ensures (date_decimal _ _ _ _ c.requires c.skip.ensures.skips n.0, c.args.self.now.within)
