use Rattle.std.proofs.Common.{take, string_bytes}
use Rattle.sfv.specs.Trees.{inner_list_tree}
use Rattle.sfv_signatures.proofs.Lined.{HasLines}
use Rattle.sfv_signatures.proofs.base.signature_base.Given as goal

-- the base has the lines of the identifiers so far
abbrev pub invariant-loop-index : goal.invariant-loop-index
invariant-loop-index g l = HasLines (g.M.Components.gives l.message) (take l.index (inner_list_tree l.list).items)
    (string_bytes l.base)
