use Rattle.std.proofs.Common.{◌≡◌, ◌%◌, ◌∙◌, ap, map, take, length, arith, length-take-le}
use Rattle.sfv_spec.specs.Base64.{symbol}
use Rattle.sfv_writer.proofs.Blocks.{bits_within, text_of_bits, front_fits, all_fit}
use Rattle.sfv_writer.proofs.base64_blocks.block_text.Goals as goal

pub symbols_of-requires : goal.symbols_of-requires
symbols_of-requires c = rw c.values_of.ensures (bits_within (take 12 c.args.block.now) (front_fits 12 c.args.block.now (all_fit c.args.block.now c.fits-block)))

pub returns : goal.returns
returns c =
    let block = c.args.block.now in
    let size : length (take 12 block) % 3 ≡ 0 = rw (length-take-le 12 block (omega arith)) (omega arith) in
    c.symbols_of.ensures ∙ ap (map symbol) c.values_of.ensures ∙ text_of_bits (take 12 block) size
