use Rattle.std.proofs.Common.{◌∷◌, [], ◌++◌, ℕ, length, flat_map, false, ap, arith, length-append}
use Rattle.sfv_writer.{specs.Quoted.piece_of, proofs.Room.{refused, inside_len}}
use Rattle.sfv_writer.proofs.string.StringRefFragment.serialize.Goals as goal

pub returns-in_err-reserve-clause-room : goal.returns-in_err-reserve-clause-room
returns-in_err-reserve-clause-room g c =
    let text = c.args.self.text.now in
    let inside = flat_map (piece_of false) text in
    refused c.args.output.now c.reserve.new.self (34 ∷ (inside ++ 34 ∷ [])) c.from_residual.result
    c.in_err-reserve.ensures.capacity
    (omega (
      arith,
      c.in_err-reserve.ensures.full,
      ap (length {A = ℕ}) c.as_str-text.ensures.text,
      inside_len false text,
      length-append inside (34 ∷ []),
    ))
