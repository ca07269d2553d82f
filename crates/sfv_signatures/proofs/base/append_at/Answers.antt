use Rattle.std.proofs.Common.{string_bytes}
use Rattle.sfv.specs.Trees.{item_tree}
use Rattle.sfv_signatures.proofs.Lined.{appended_at, broken_at}
use Rattle.sfv_signatures.proofs.base.append_at.Goals as goal

pub returns-in-Ok-clause-line : goal.returns-in-Ok-clause-line
returns-in-Ok-clause-line g c = appended_at item_tree (g.M.Components.gives c.args.message.now)
    c.args.list.now.items.items c.as_slice.result.now c.args.index c.index.result.now c.as_slice.ensures.value
    c.requires c.index.ensures (string_bytes c.args.base.now) (string_bytes c.append_line.new.base) c.in-Ok.ensures

pub returns-in-Err-clause-line : goal.returns-in-Err-clause-line
returns-in-Err-clause-line g c = broken_at item_tree (g.M.Components.gives c.args.message.now)
    c.args.list.now.items.items c.as_slice.result.now c.args.index c.index.result.now c.as_slice.ensures.value
    c.requires c.index.ensures c.in-Err.kind c.in-Err.ensures
