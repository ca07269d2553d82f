use Rattle.std.proofs.Common.{rules, ◌≡◌, subst}
use Rattle.sfv_tree.specs.Builders.{HasSeedSoFar}
use Rattle.sfv_tree.specs.declared.visitor.member.Member.TheVariants as members
use Rattle.sfv_tree.proofs.visitor.member.Member.end_parameters.Goals as goal

pub returns-in-Entry-clause-seed : goal.returns-in-Entry-clause-seed
returns-in-Entry-clause-seed c = λ seed h.
    let held : c.args.self.now ≡ members.Entry c.in-Entry.entry = search rules in
    c.fit_member.ensures.seed seed (subst (HasSeedSoFar seed) held h)
