use Rattle.std.{proofs.Common.{◌≡◌, ◌++◌, ◌∙◌, codes, string_bytes, subst, lit<}, specs.Fmt.signed_decimal}
use Rattle.sfv_writer.proofs.{Appended.{put, next}, Room.len_of, Written.cut_to}
use Rattle.sfv_writer.proofs.number.serialize_date.Goals as goal

pub returns-clause-text : goal.returns-clause-text
returns-clause-text g c = next _ (codes "@") _ _ _ (put _ _ _ _ c.in_ok-push.ensures.bytes
    (c.in_ok-push.ensures.ascii (lit< tt))) (subst (λ z. string_bytes c.serialize_integer.new.output
    ≡ string_bytes c.push.new.self ++ signed_decimal z) c.unix_seconds.ensures c.in_default.ensures.text)

pub returns-in-Err-clause-text : goal.returns-in-Err-clause-text
returns-in-Err-clause-text g c =
    let old = c.args.output.now in
    let mark = put (string_bytes old) _ (codes "@") _ c.in_ok-push.ensures.bytes (c.in_ok-push.ensures.ascii (lit< tt)) in
    cut_to old c.serialize_integer.new.output c.truncate_to.new.output c.len-len.result (c.len-len.ensures ∙ len_of old)
    (codes "@", c.in-Err.ensures.text ∙ mark) c.truncate_to.ensures.text
