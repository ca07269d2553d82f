use Rattle.sfv_http_fields.proofs.ReadBack.{read_as}
use Rattle.sfv_http_fields.proofs.proxy_status.writing.write_proxy.Goals as goal

pub returns-in-Ok-clause-read_back : goal.returns-in-Ok-clause-read_back
returns-in-Ok-clause-read_back c = read_as c.args.name.now c.args.error c.args.received_status c.requires.least
    c.requires.most (rw c.name_item.ensures at c.in-Ok.ensures.value)
