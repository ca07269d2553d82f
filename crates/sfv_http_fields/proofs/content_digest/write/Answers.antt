use Rattle.std.proofs.lemmas.Result.{IfOk-weaker}
use Rattle.sfv_http_fields.{specs.ContentDigests.digests_in, proofs.Digests.digests_written}
use Rattle.sfv_http_fields.proofs.content_digest.write.Goals as goal

pub returns-clause-read_back : goal.returns-clause-read_back
returns-clause-read_back c = IfOk-weaker c.serialize.result _ _ (digests_written (digests_in c.args.digest.now))
    (rw c.in_ok-dictionary.ensures.members at c.serialize.ensures.text)
