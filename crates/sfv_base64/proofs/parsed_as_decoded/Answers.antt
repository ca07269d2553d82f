use Rattle.sfv_base64.proofs.Contents.{parsed}
use Rattle.sfv_base64.proofs.parsed_as_decoded.Goals as goal

pub returns : goal.returns
returns c = parsed
