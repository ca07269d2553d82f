use Rattle.std.proofs.Common.{◌++◌, ◌∙◌, List, ℕ, string_bytes, sym, ap, subst, eqb-true, arith}
use Rattle.sfv_spec.proofs.Marks.{plain_of}
use Rattle.sfv_writer.specs.{Quoted.piece_of, Written.LacksRoom}
use Rattle.sfv_writer.proofs.Room.{refused, rest_room, room_inside, run_itself}
use Rattle.sfv_writer.proofs.Written.{none_written, run_written, rest_written, whole_written, plain_utf8, plain_itself}
use Rattle.sfv_writer.proofs.quoted.serialize_inside.Goals as goal

pub from_utf8_unchecked-requires : goal.from_utf8_unchecked-requires
from_utf8_unchecked-requires g c = plain_utf8 g.Q.Escaping.display _ c.split_whole.ensures.each

pub returns-in_err-push_str-clause-room : goal.returns-in_err-push_str-clause-room
returns-in_err-push_str-clause-room g c =
    let display = g.Q.Escaping.display in
    let bytes = c.args.bytes.now in
    let none = subst (λ (l : List ℕ). LacksRoom c.args.output.now l)
    (c.from_utf8_unchecked.ensures ∙ sym (run_itself (piece_of display) (plain_of display) (plain_itself display)
    c.split_whole.result.0.now c.split_whole.ensures.each)) c.in_err-push_str.ensures.full in
    refused c.args.output.now c.push_str.new.self _ c.from_residual.result c.in_err-push_str.ensures.capacity
    (room_inside (piece_of display) c.args.output.now c.args.output.now bytes bytes _ _ (none_written
    (piece_of display) (string_bytes c.args.output.now) bytes) c.split_whole.ensures.whole (omega arith) none)

pub returns-then-is_empty-clause-text : goal.returns-then-is_empty-clause-text
returns-then-is_empty-clause-text g c =
    let piece = piece_of g.Q.Escaping.display in
    let old = string_bytes c.args.output.now in
    let bytes = c.args.bytes.now in
    whole_written _ _ _ _ _ (run_written _ _ _ _ (plain_itself _) _ _ _ _ _
    (none_written _ _ _) c.split_whole.ensures.whole c.split_whole.ensures.each
    (c.in_ok-push_str.ensures.bytes ∙ ap (λ (l : List ℕ). old ++ l) c.from_utf8_unchecked.ensures))
    (eqb-true _ _ (sym c.is_empty.ensures ∙ c.if-is_empty.true))

pub returns-clause-text : goal.returns-clause-text
returns-clause-text g c =
    let piece = piece_of g.Q.Escaping.display in
    let old = string_bytes c.args.output.now in
    let bytes = c.args.bytes.now in
    rest_written _ _ _ _ _ _ _ (run_written _ _ _ _ (plain_itself _) _ _ _ _ _
    (none_written _ _ _) c.split_whole.ensures.whole c.split_whole.ensures.each (c.in_ok-push_str.ensures.bytes
    ∙ ap (λ (l : List ℕ). old ++ l) c.from_utf8_unchecked.ensures)) c.serialize_pieces.ensures.text

pub returns-clause-room : goal.returns-clause-room
returns-clause-room g c =
    let piece = piece_of g.Q.Escaping.display in
    let old = string_bytes c.args.output.now in
    let bytes = c.args.bytes.now in
    let written = run_written _ _ _ _
    (plain_itself _) _ _ _ _ _ (none_written _ _ _) c.split_whole.ensures.whole c.split_whole.ensures.each
    (c.in_ok-push_str.ensures.bytes ∙ ap (λ (l : List ℕ). old ++ l) c.from_utf8_unchecked.ensures) in
    rest_room piece c.args.output.now c.push_str.new.self c.serialize_pieces.new.output bytes _ _ written
    c.in_ok-push_str.ensures.capacity c.serialize_pieces.ensures.room
