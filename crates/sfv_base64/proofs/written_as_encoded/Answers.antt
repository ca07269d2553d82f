use Rattle.sfv_base64.proofs.Encoded.{written}
use Rattle.sfv_base64.proofs.written_as_encoded.Goals as goal

pub returns : goal.returns
returns c = written
