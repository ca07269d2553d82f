use Rattle.std.proofs.Common.{map, []}
use Rattle.http_header.specs.Token.{lowercase}
use Rattle.sfv_headers.specs.Lines.{lines_in}
use Rattle.sfv_signatures.{specs.HttpMessages.{without_start, without_end}, proofs.Joined.end_joined}
use Rattle.sfv_signatures.proofs.lines.plain_text.Goals as goal

pub returns : goal.returns
returns c = end_joined c.loop-value.text.items [] (map (λ line. without_end (without_start line))
    (lines_in c.args.fields.now (lowercase c.args.name.now))) (rw c.in-None.ensures.steps.0 at c.loop-value.invariant.2)
