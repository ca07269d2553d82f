use Rattle.std.proofs.Common.{refl}
use Rattle.sfv.{specs.Types.dictionary_field, proofs.Callers.has_visitor_error}
use Rattle.sfv_examples.specs.declared.visiting.MemberCounter.{MemberCounter}
use Rattle.sfv_examples.proofs.Uses.{count_answered, count_failed}
use Rattle.sfv_examples.proofs.visiting.count_members.Goals as goal

pub returns-clause-counted : goal.returns-clause-counted
returns-clause-counted c =
    let counter : MemberCounter = record { members = 0; limit = c.args.limit } in
    count_answered c.args.input.now counter refl c.parse_dictionary_with_visitor.result
    (rw c.new.ensures at c.parse_dictionary_with_visitor.ensures.visited)

pub returns-clause-failed : goal.returns-clause-failed
returns-clause-failed c =
    let counter : MemberCounter = record { members = 0; limit = c.args.limit } in
    count_failed c.args.input.now counter refl c.parse_dictionary_with_visitor.result
    (rw c.new.ensures at c.parse_dictionary_with_visitor.ensures.syntax)
    (has_visitor_error _ _ dictionary_field _ c.parse_dictionary_with_visitor.result
    (rw c.new.ensures at c.parse_dictionary_with_visitor.ensures.visitor))
