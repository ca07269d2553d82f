use Rattle.sfv_http_fields.proofs.Digests.{digests_failed, digests_returned}
use Rattle.sfv_http_fields.proofs.content_digest.reading.read.Goals as goal

pub returns-clause-failed : goal.returns-clause-failed
returns-clause-failed c = digests_failed c.args.input.now c.in_ok-members.members c.in_ok-members.ensures.read
    c.digests_of.result c.digests_of.ensures

pub returns-clause-returned : goal.returns-clause-returned
returns-clause-returned c = digests_returned c.args.input.now c.in_ok-members.members c.in_ok-members.ensures.read
    c.digests_of.result c.digests_of.ensures
