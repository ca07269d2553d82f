use Rattle.std.proofs.{Common.{◌≡◌, ◌%◌, ◌∙◌, ap, map, length, arith}, lemmas.List.length-map}
use Rattle.sfv_model.{specs.Content.symbol_value, proofs.base64.Shape.are_values}
use Rattle.sfv.{specs.parser.Base64.bytes_of_groups, proofs.reads.Blocks.grouped}
use Rattle.sfv.proofs.parser.base64_blocks.block_bytes.Goals as goal

pub groups_of-requires : goal.groups_of-requires
groups_of-requires c = rw c.values_of.ensures (are_values c.args.block.now c.requires)

pub returns : goal.returns
returns c =
    let vs = map symbol_value c.args.block.now in
    let size : length vs % 4 ≡ 0 = omega (arith, length-map c.args.block.now symbol_value) in
    c.bytes_of.ensures ∙ ap bytes_of_groups c.groups_of.ensures
    ∙ rw c.values_of.ensures (grouped vs size (are_values c.args.block.now c.requires))
