use Rattle.std.{proofs.Common.{rules, ◌≡◌, ℕ, List, refl, subst, inl, Option, Some, MatchOption}, specs.Prelude.⊤}
use Rattle.sfv_tree.specs.{Builders.HasSeedSoFar, declared.visitor.member.Member.Member}
use Rattle.sfv_tree.proofs.visitor.dictionary_builder.DictionaryBuilder.parameter.Goals as goal

pub returns-in_ok-parameter-clause-seed : goal.returns-in_ok-parameter-clause-seed
returns-in_ok-parameter-clause-seed c = λ seed h.
    let held : c.args.self.now.member ≡ Some (c.in-Some.field-0-0, c.in-Some.member) = search rules in
    let before : HasSeedSoFar seed c.in-Some.member =
    subst (λ (o : Option (List ℕ × Member)). MatchOption o ⊤ (λ p. HasSeedSoFar seed p.1)) held h.1 in
    ((h.0, c.in_ok-parameter.ensures.seed seed before), inl refl)
