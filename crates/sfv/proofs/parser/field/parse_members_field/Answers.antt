use Rattle.std.proofs.lemmas.Result.{IfOk-weaker}
use Rattle.sfv.proofs.reads.Errors.{left_with}
use Rattle.sfv.proofs.visits.AsRead.{members_field_fails, members_field_ends, members_field_read}
use Rattle.sfv.proofs.parser.field.parse_members_field.Goals as goal

pub returns-in_err-members-clause-visited : goal.returns-in_err-members-clause-visited
returns-in_err-members-clause-visited g c = rw (left_with c.from_residual.ensures.1)
    (members_field_fails g.V.Visitor _ _ c.args.visitor _ c.new.result c.members.new.self
    c.members.new.visitor c.new.ensures.kept c.new.ensures.rest _ c.in_err-members.ensures.visited)

pub returns-clause-visited : goal.returns-clause-visited
returns-clause-visited g c = members_field_ends g.V.Visitor _ _ c.args.visitor _ c.new.result c.members.new.self
    c.members.new.visitor c.new.ensures.kept c.new.ensures.rest c.in_ok-members.ensures.end
    c.in_ok-members.ensures.visited _ c.finish.ensures.answered c.finish.ensures.failed

pub returns-clause-as_read : goal.returns-clause-as_read
returns-clause-as_read g c = IfOk-weaker c.finish.result _ _
    (λ out finished. members_field_read g.V.Visitor c.args.parser c.args.alloc c.args.visitor g.M.Member.keyed
    c.new.result c.members.new.self c.members.new.visitor c.new.ensures.kept c.new.ensures.rest
    c.in_ok-members.ensures.end c.in_ok-members.ensures.visited out finished) c.finish.ensures.answered
