use Rattle.std.proofs.Common.{arith}
use Rattle.sfv_base64.proofs.Contents.{ok_parsed, err_rejected}
use Rattle.sfv_base64.proofs.decode.Goals as goal

pub returns-clause-parsed : goal.returns-clause-parsed
returns-clause-parsed c = ok_parsed c.lenient.result c.args.content.now c.decode.result _ c.lenient.ensures
    (λ i. let f = c.type_inv.content i in omega arith) c.decode.ensures.ok

pub returns-clause-rejected : goal.returns-clause-rejected
returns-clause-rejected c = err_rejected c.lenient.result c.args.content.now c.decode.result c.lenient.ensures
    (λ i. let f = c.type_inv.content i in omega arith) c.decode.ensures.err
