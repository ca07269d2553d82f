use Rattle.std.proofs.Common.{refl, [], ap}
use Rattle.sfv_spec.specs.Ordered.{collapse}
use Rattle.sfv.specs.{Field.pairs_tree, parser.Cursor.{version, rest}}
use Rattle.sfv.proofs.{reads.Steps.parameter_none, trees.Parts.no_parameters}
use Rattle.sfv.proofs.parser.cursor.Cursor.tree_parameters.Goals as goal

pub returns-clause-tree : goal.returns-clause-tree
unfolding collapse
returns-clause-tree c =
    let t = rest c.args.self.now in
    let none = parameter_none (version c.args.self.now) t t (refl, c.if-next_is.ensures) in
    ([], no_parameters (version c.args.self.now) t none, ap pairs_tree c.requires, refl)
