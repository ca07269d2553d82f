use Rattle.sfv_lint.proofs.Status.{reported}
use Rattle.sfv_lint.proofs.report.Goals as goal

pub returns-in-Ok : goal.returns-in-Ok
returns-in-Ok g c = reported c.args.options.now c.args.colors c.args.input.now c.in-Ok.report
    (g.O.Write.contents c.args.output.now) (g.O.Write.contents c.write.new.output) c.as_str.result.now c.status_of.result
    c.write.result c.in-Ok.ensures.head c.in-Ok.ensures.value c.in-Ok.ensures.field c.as_str.ensures.value
    c.status_of.ensures c.write.ensures
