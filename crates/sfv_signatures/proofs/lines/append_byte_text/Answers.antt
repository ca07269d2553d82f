use Rattle.std.proofs.Common.{map, string_bytes}
use Rattle.http_header.specs.Token.{lowercase}
use Rattle.sfv.specs.{Canonical.bare_text, Values.byte_sequence}
use Rattle.sfv_headers.specs.Lines.{lines_in}
use Rattle.sfv_signatures.{specs.HttpMessages.{without_start, without_end}, proofs.Joined.end_joined}
use Rattle.sfv_signatures.proofs.lines.append_byte_text.Goals as goal

pub returns-clause-text : goal.returns-clause-text
returns-clause-text c = end_joined (string_bytes c.loop-value.base) (string_bytes c.args.base.now)
    (map (λ line. bare_text (byte_sequence (without_end (without_start line))))
    (lines_in c.args.fields.now (lowercase c.args.name.now))) (rw c.in-None.ensures.steps.0 at c.loop-value.invariant.2)
