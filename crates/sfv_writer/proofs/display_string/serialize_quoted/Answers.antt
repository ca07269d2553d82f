use Rattle.std.proofs.Common.{◌∷◌, [], ◌++◌, flat_map, true, arith, length-append}
use Rattle.sfv_writer.{specs.Quoted.piece_of, proofs.Room.{refused, inside_len}}
use Rattle.sfv_writer.proofs.display_string.serialize_quoted.Goals as goal

pub returns-in_err-reserve-clause-room : goal.returns-in_err-reserve-clause-room
returns-in_err-reserve-clause-room g c =
    let inside = flat_map (piece_of true) c.args.value.now in
    refused c.args.output.now c.reserve.new.self (37 ∷ 34 ∷ (inside ++ 34 ∷ [])) c.from_residual.result
    c.in_err-reserve.ensures.capacity
    (omega (arith, c.in_err-reserve.ensures.full, inside_len true c.args.value.now, length-append inside (34 ∷ [])))
