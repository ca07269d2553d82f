use Rattle.std.{proofs.Common.subst, specs.Map.values_of, specs.Map.Iter.deref}
use Rattle.sfv_spec.specs.Values.{member_values}
use Rattle.sfv_tree.specs.Trees.{member_tree}
use Rattle.sfv_writer.{specs.Versions.ChecksVersion, proofs.Checks.{checks_whole, entry_values}, proofs.Lent.map_gives}
use Rattle.sfv_writer.proofs.version_check.check_dictionary.Goals as goal

pub returns : goal.returns
returns c = subst (λ bs. ChecksVersion c.args.version bs c.check_all.result) (entry_values c.args.dictionary.now.entries)
    (checks_whole member_values c.args.version c.check_all.result
    (map_gives deref member_tree c.values.result (values_of c.args.dictionary.now.entries) c.values.ensures.rest)
    c.check_all.ensures)
