use Rattle.sfv_tree.{specs.Builders.HasSeedSoFar, specs.declared.hash_seed.HashSeed.HashSeed, proofs.Members.on_ok}
use Rattle.sfv_tree.proofs.visitor.member.Member.step.Goals as goal

pub returns-in-ParametersEnd-clause-seed : goal.returns-in-ParametersEnd-clause-seed
returns-in-ParametersEnd-clause-seed c = on_ok _ ((seed : HashSeed) → HasSeedSoFar seed c.args.self.now
    → HasSeedSoFar seed c.end_parameters.new.self) (HasSeedSoFar c.args.seed c.args.self.now
    → HasSeedSoFar c.args.seed c.end_parameters.new.self) c.end_parameters.ensures.seed (λ h. h c.args.seed)

pub returns-in-Item-clause-seed : goal.returns-in-Item-clause-seed
returns-in-Item-clause-seed c = c.begin_item.ensures.seed c.args.seed

pub returns-in_ok-parameter-in-Parameter-clause-seed : goal.returns-in_ok-parameter-in-Parameter-clause-seed
returns-in_ok-parameter-in-Parameter-clause-seed c = c.in_ok-parameter-in-Parameter.ensures.seed c.args.seed

pub returns-in-InnerListEnd-clause-seed : goal.returns-in-InnerListEnd-clause-seed
returns-in-InnerListEnd-clause-seed c = c.end_inner_list.ensures.seed c.args.seed
