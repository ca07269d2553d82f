use Rattle.std.proofs.Common.{vec_items}
use Rattle.sfv_http_fields.proofs.BrandLists.{pushed, not_pushed, left_out}
use Rattle.sfv_http_fields.proofs.sec_ch_ua.BrandReaderListReader.member.Goals as goal

pub returns-then-is_err-clause-read : goal.returns-then-is_err-clause-read
returns-then-is_err-clause-read c = λ start m ms kept so_far.
    not_pushed c.args.member m ms kept c.in-Some.brand c.in-Some.is

pub returns-else-is_err-clause-read : goal.returns-else-is_err-clause-read
returns-else-is_err-clause-read c = λ start m ms kept so_far.
    pushed c.args.member m ms kept c.args.self.now.is_cut (vec_items c.args.self.now.brands) (vec_items c.push.new.self)
    so_far c.in-Some.brand c.in-Some.is (rw c.if-is_err.ensures.negation at c.push.ensures.items)

pub returns-in_default-clause-read : goal.returns-in_default-clause-read
returns-in_default-clause-read c = λ start m ms kept so_far.
    left_out c.args.member m ms kept c.args.self.now.is_cut (vec_items c.args.self.now.brands) so_far c.in_default.is
