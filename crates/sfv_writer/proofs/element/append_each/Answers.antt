use Rattle.std.proofs.Common.{◌∙◌}
use Rattle.sfv_writer.proofs.Written.{cut_to}
use Rattle.sfv_writer.proofs.element.append_each.Goals as goal

pub returns-in-Err-clause-kept : goal.returns-in-Err-clause-kept
returns-in-Err-clause-kept g c =
    let old = c.args.text.now in
    cut_to old c.serialize_each.new.output c.truncate_to.new.output c.len-len.result
    (c.len-len.ensures ∙ old.bytes.ok.0) c.in-Err.ensures.kept c.truncate_to.ensures.text
