use Rattle.std.proofs.Common.{◌∙◌, map}
use Rattle.sfv_lint_head.specs.Heads.{line_of}
use Rattle.sfv_lint_report.proofs.Fields.{with_field}
use Rattle.sfv_lint_report.proofs.report.Report.add.Goals as goal

pub returns : goal.returns
returns c = with_field c.args.version (map line_of c.args.lines.now) c.args.name.now c.args.self.now _ c.in_ok-field.field
    c.in_ok-push-2.ensures.items
    (record {
      registered = rw (c.in_ok-field.ensures.name, c.in_ok-field.ensures.kind) c.in-Some.ensures.some;
      its_lines = rw c.in_ok-field.ensures.name (c.in_ok-field.ensures.lines ∙ c.in_ok-values.ensures);
      checked = c.in_ok-field.ensures.checked;
    })
    c.in_ok-field.ensures.name
