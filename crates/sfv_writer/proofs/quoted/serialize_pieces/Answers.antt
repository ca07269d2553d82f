use Rattle.std.proofs.Common.{◌++◌, ◌∙◌, List, [], ◌∷◌, ℕ, string_bytes, sym, ap, subst, arith, append-nil, flat_map}
use Rattle.sfv_spec.proofs.Marks.{plain_of}
use Rattle.sfv_writer.specs.{Quoted.piece_of, Written.LacksRoom}
use Rattle.sfv_writer.proofs.{Appended.{unchanged, stops}, Room.{refused, room_inside, run_itself}}
use Rattle.sfv_writer.proofs.Written.{none_written, whole_written, next_held, run_shortens, plain_utf8, plain_itself}
use Rattle.sfv_writer.proofs.Written.{run_written, byte_written}
use Rattle.sfv_writer.proofs.quoted.serialize_pieces.Goals as goal

pub from_utf8_unchecked-requires : goal.from_utf8_unchecked-requires
from_utf8_unchecked-requires g c = plain_utf8 g.Q.Escaping.display _ c.split_plain.ensures.each

pub loop-byte-preserved-then-is_plain : goal.loop-byte-preserved-then-is_plain
loop-byte-preserved-then-is_plain g c = (
  run_written _ _ _ _ (plain_itself _) _ _ _ _ _ c.loop-byte.invariant.0 c.split_plain.ensures.whole
      c.split_plain.ensures.each (c.in_ok-push_str.ensures.bytes
      ∙ ap (λ (l : List ℕ). string_bytes c.loop-byte.output ++ l) c.from_utf8_unchecked.ensures),
  omega (arith, c.loop-byte.invariant.1, c.in_ok-push_str.ensures.capacity),
)

pub loop-byte-preserved : goal.loop-byte-preserved
loop-byte-preserved g c = (
  byte_written (piece_of g.Q.Escaping.display) (string_bytes c.args.output.now) c.args.bytes.now _ _ _ _ _
      c.loop-byte.invariant.0 c.in-Some.ensures.cases.0 c.in_ok-push_escape.ensures.text,
  omega (arith, c.loop-byte.invariant.1, c.in_ok-push_escape.ensures.room),
)

pub loop-byte-init : goal.loop-byte-init
loop-byte-init g c = (none_written _ _ _, omega arith)

pub is_plain-requires : goal.is_plain-requires
is_plain-requires g c = next_held _ _ _ _ _ _ _ _ c.requires c.loop-byte.invariant.0 c.in-Some.ensures.cases.0

pub push_escape-requires-clause-held : goal.push_escape-requires-clause-held
push_escape-requires-clause-held g c =
    next_held _ _ _ _ _ _ _ _ c.requires c.loop-byte.invariant.0 c.in-Some.ensures.cases.0

pub loop-byte-smaller-then-is_plain : goal.loop-byte-smaller-then-is_plain
loop-byte-smaller-then-is_plain g c =
    run_shortens (plain_of g.Q.Escaping.display) _ _ _ _ _ c.split_plain.ensures.whole c.in-Some.ensures.cases.0
    (sym c.if-is_plain.ensures) c.split_plain.ensures.ends

pub returns-clause-text : goal.returns-clause-text
returns-clause-text g c = whole_written _ _ _ _ _ c.loop-byte.invariant.0 c.in_default.ensures.cases

pub returns-in_err-push_str-clause-text : goal.returns-in_err-push_str-clause-text
returns-in_err-push_str-clause-text g c =
    let piece = piece_of g.Q.Escaping.display in
    stops _ (flat_map piece c.loop-byte.invariant.0.front) _ _ _ _ c.from_residual.ensures.0
    c.loop-byte.invariant.0.done (unchanged _ _ c.in_err-push_str.ensures.bytes)

pub returns-in_err-push_escape-clause-text : goal.returns-in_err-push_escape-clause-text
returns-in_err-push_escape-clause-text g c =
    let piece = piece_of g.Q.Escaping.display in
    stops _ (flat_map piece c.loop-byte.invariant.0.front) _ _ _ _ c.from_residual-in_err-push_escape.ensures.0
    c.loop-byte.invariant.0.done c.in_err-push_escape.ensures.text

pub returns-in_err-push_str-clause-room : goal.returns-in_err-push_str-clause-room
returns-in_err-push_str-clause-room g c =
    let display = g.Q.Escaping.display in
    let none = subst (λ (l : List ℕ). LacksRoom c.loop-byte.output l)
    (c.from_utf8_unchecked.ensures ∙ sym (run_itself (piece_of display) (plain_of display) (plain_itself display)
    c.split_plain.result.0.now c.split_plain.ensures.each)) c.in_err-push_str.ensures.full in
    refused c.args.output.now c.push_str.new.self _ c.from_residual.result
    (omega (arith, c.loop-byte.invariant.1, c.in_err-push_str.ensures.capacity))
    (room_inside (piece_of display) c.args.output.now c.loop-byte.output c.args.bytes.now _ _ _
    c.loop-byte.invariant.0 c.split_plain.ensures.whole c.loop-byte.invariant.1 none)

pub returns-in_err-push_escape-clause-room : goal.returns-in_err-push_escape-clause-room
returns-in_err-push_escape-clause-room g c =
    let piece = piece_of g.Q.Escaping.display in
    let none = subst (λ (l : List ℕ). LacksRoom c.loop-byte.output l) (sym (append-nil (piece c.in-Some.byte.now)))
    c.in_err-push_escape.ensures.room.1 in
    refused c.args.output.now c.push_escape.new.output _ c.from_residual-in_err-push_escape.result
    (omega (arith, c.loop-byte.invariant.1, c.in_err-push_escape.ensures.room.0))
    (room_inside piece c.args.output.now c.loop-byte.output c.args.bytes.now _ (c.in-Some.byte.now ∷ []) _
    c.loop-byte.invariant.0 c.in-Some.ensures.cases.0 c.loop-byte.invariant.1 none)
