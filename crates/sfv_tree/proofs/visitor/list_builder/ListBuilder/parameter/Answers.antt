use Rattle.std.{proofs.Common.{rules, ◌≡◌, refl, subst, inl, Option, Some, MatchOption}, specs.Prelude.⊤}
use Rattle.sfv_tree.specs.{Builders.HasSeedSoFar, declared.visitor.member.Member.Member}
use Rattle.sfv_tree.proofs.visitor.list_builder.ListBuilder.parameter.Goals as goal

pub returns-in_ok-parameter-clause-seed : goal.returns-in_ok-parameter-clause-seed
returns-in_ok-parameter-clause-seed c = λ seed h.
    let held : c.args.self.now.member ≡ Some c.in-Some.member = search rules in
    let before : HasSeedSoFar seed c.in-Some.member =
    subst (λ (o : Option Member). MatchOption o ⊤ (HasSeedSoFar seed)) held h.1 in
    ((h.0, c.in_ok-parameter.ensures.seed seed before), inl refl)
