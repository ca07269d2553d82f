use Rattle.std.proofs.Common.{◌∙◌, ap}
use Rattle.sfv.{specs.Field.dictionary_tree, proofs.trees.Fields.no_pairs}
use Rattle.sfv.proofs.parser.tree.DictionaryMembers.empty.Goals as goal

pub returns-clause-tree : goal.returns-clause-tree
returns-clause-tree c = ap dictionary_tree c.with_hasher.ensures.empty ∙ no_pairs
