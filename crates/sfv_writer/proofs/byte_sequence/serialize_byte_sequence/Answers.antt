use Rattle.std.proofs.Common.{ℕ, [], ◌∷◌, ◌++◌, length, string_bytes, ap, arith, length-append}
use Rattle.sfv_spec.{specs.Base64.base64_text, proofs.Lengths.text_len}
use Rattle.sfv_writer.proofs.Room.{refused}
use Rattle.sfv_writer.proofs.byte_sequence.serialize_byte_sequence.Goals as goal

pub returns-in_err-serialize_base64-clause-room : goal.returns-in_err-serialize_base64-clause-room
returns-in_err-serialize_base64-clause-room g c =
    let bytes = c.args.value.now in
    refused c.args.output.now c.serialize_base64.new.output (58 ∷ (base64_text bytes ++ 58 ∷ [])) c.from_residual-in_err-serialize_base64.result
    (omega (arith, c.in_ok-push.ensures.capacity, c.in_err-serialize_base64.ensures.room.0))
    (omega (
      arith,
      c.in_err-serialize_base64.ensures.room.1,
      c.in_ok-push.ensures.len,
      c.in_ok-push.ensures.ascii_len,
      c.in_ok-push.ensures.capacity,
      length-append (base64_text bytes) (58 ∷ []),
    ))

pub returns-in_err-push-2-clause-room : goal.returns-in_err-push-2-clause-room
returns-in_err-push-2-clause-room g c =
    let bytes = c.args.value.now in
    refused c.args.output.now c.push-2.new.self (58 ∷ (base64_text bytes ++ 58 ∷ [])) c.from_residual-in_err-push-2.result
    (omega (arith, c.in_ok-push.ensures.capacity, c.in_ok-serialize_base64.ensures.room.0, c.in_err-push-2.ensures.capacity))
    (omega (
      arith,
      c.in_err-push-2.ensures.full,
      c.in_err-push-2.ensures.ascii_len,
      c.in_ok-push.ensures.len,
      c.in_ok-push.ensures.ascii_len,
      c.in_ok-push.ensures.capacity,
      c.in_ok-serialize_base64.ensures.room.0,
      ap (length {A = ℕ}) c.in_ok-serialize_base64.ensures.text,
      c.serialize_base64.new.output.bytes.ok.0,
      c.push.new.self.bytes.ok.0,
      length-append (string_bytes c.push.new.self) (base64_text bytes),
      length-append (base64_text bytes) (58 ∷ []),
    ))

pub returns-in_err-reserve-clause-room : goal.returns-in_err-reserve-clause-room
returns-in_err-reserve-clause-room g c =
    let bytes = c.args.value.now in
    refused c.args.output.now c.reserve.new.self (58 ∷ (base64_text bytes ++ 58 ∷ [])) c.from_residual.result
    c.in_err-reserve.ensures.capacity
    (omega (
      arith,
      c.in_err-reserve.ensures.full,
      c.div_ceil.ensures,
      text_len bytes,
      length-append (base64_text bytes) (58 ∷ []),
    ))

pub returns-in_err-serialize_base64-clause-text : goal.returns-in_err-serialize_base64-clause-text
returns-in_err-serialize_base64-clause-text g c =
    let bytes = c.args.value.now in
    absurd (omega (
      arith,
      c.in_ok-reserve.ensures.ok,
      c.div_ceil.ensures,
      text_len bytes,
      c.in_ok-push.ensures.len,
      c.in_ok-push.ensures.ascii_len,
      c.in_ok-push.ensures.capacity,
      c.in_err-serialize_base64.ensures.room.1,
    ))

pub returns-in_err-push-2-clause-text : goal.returns-in_err-push-2-clause-text
returns-in_err-push-2-clause-text g c =
    let bytes = c.args.value.now in
    absurd (omega (
      arith,
      c.in_ok-reserve.ensures.ok,
      c.div_ceil.ensures,
      text_len bytes,
      c.in_ok-push.ensures.len,
      c.in_ok-push.ensures.ascii_len,
      c.in_ok-push.ensures.capacity,
      c.in_ok-serialize_base64.ensures.room.0,
      ap (length {A = ℕ}) c.in_ok-serialize_base64.ensures.text,
      c.serialize_base64.new.output.bytes.ok.0,
      c.push.new.self.bytes.ok.0,
      length-append (string_bytes c.push.new.self) (base64_text bytes),
      c.in_err-push-2.ensures.full,
      c.in_err-push-2.ensures.ascii_len,
    ))
