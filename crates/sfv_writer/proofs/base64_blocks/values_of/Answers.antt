use Rattle.std.proofs.Common.{ℕ, List, ap, take, ◌∙◌, arith, length-take-le}
use lib.Lanes.{digits_l, number_l}
use Rattle.sfv_writer.{specs.Base64.value_pairs, proofs.Blocks.{bits_are, front_fits}}
use Rattle.sfv_writer.proofs.base64_blocks.values_of.Goals as goal

pub returns : goal.returns
returns c =
    let bytes = c.args.bytes in
    ap (λ (ps : List ℕ). digits_l 256 16 (number_l 65536 ps)) (c.values_in.ensures ∙ ap value_pairs c.pairs_of.ensures)
    ∙ bits_are 4 (take 12 bytes) (length-take-le 12 bytes (omega (arith, c.fits-bytes.0))) (front_fits 12 bytes c.fits-bytes.1)
