use Rattle.std.proofs.Common.{◌∙◌}
use Rattle.sfv_writer.proofs.Written.{cut_to}
use Rattle.sfv_writer.proofs.item.append_first_and_rest.Goals as goal

pub returns-in-Err-clause-kept : goal.returns-in-Err-clause-kept
returns-in-Err-clause-kept g c =
    let old = c.args.output.now in
    cut_to old c.serialize_first_and_rest.new.output c.truncate_to.new.output c.len-len.result
    (c.len-len.ensures ∙ old.bytes.ok.0) c.in-Err.ensures.grows c.truncate_to.ensures.text
