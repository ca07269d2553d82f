use Rattle.std.proofs.{Common.{◌∙◌, subst, eqb-true, sym, length, ◌-◌, take, drop, refl, arith}, lemmas.List.take_rest}
use Rattle.sfv_spec.specs.Base64.{base64_text}
use Rattle.sfv_writer.specs.Written.{LacksRoom}
use Rattle.sfv_writer.proofs.Encoded.{text_ascii, in_front, block_in_front, more_encoded, none_for_all, all_encoded}
use Rattle.sfv_writer.proofs.Room.{refused}
use Rattle.sfv_writer.proofs.byte_sequence.serialize_base64.Goals as goal

pub push_ascii-requires : goal.push_ascii-requires
push_ascii-requires g c = rw c.block_text.ensures (text_ascii (take 12 c.in-Some.block.now))

pub returns-in_err-push_ascii-clause-room : goal.returns-in_err-push_ascii-clause-room
returns-in_err-push_ascii-clause-room g c =
    let chunk = c.in-Some.ensures.cases in
    let rest = c.loop-block.rest.now in
    let block = c.in-Some.block.now in
    let input = c.args.input.now in
    let parts = block_in_front rest block (drop 12 rest) chunk.enough chunk.same refl in
    refused c.args.output.now c.push_ascii.new.output (base64_text input) c.from_residual.result
    (omega (arith, c.loop-block.invariant.grown, c.in_err-push_ascii.ensures.room.0))
    (none_for_all c.args.output.now c.loop-block.output input rest (base64_text (take 12 block)) (drop 12 rest)
    c.loop-block.invariant parts
    (subst (LacksRoom c.loop-block.output) c.block_text.ensures c.in_err-push_ascii.ensures.room.1))

pub loop-block-preserved : goal.loop-block-preserved
loop-block-preserved g c =
    let chunk = c.in-Some.ensures.cases in
    let rest = c.loop-block.rest.now in
    let block = c.in-Some.block.now in
    let after = take (length rest - 12) (drop 12 rest) in
    let parts = block_in_front _ _ _ chunk.enough chunk.same (take_rest rest 12) in
    more_encoded _ _ _ _ _ _ _ c.loop-block.invariant parts
    (c.in_ok-push_ascii.ensures.text ∙ rw c.block_text.ensures refl) c.in_ok-push_ascii.ensures.room.0

pub push_ascii-requires-in-Some-split_first_chunk : goal.push_ascii-requires-in-Some-split_first_chunk
push_ascii-requires-in-Some-split_first_chunk g c = rw c.group_text.ensures (text_ascii c.in-Some-split_first_chunk.group.now)

pub returns-in_err-push_ascii-2-clause-room : goal.returns-in_err-push_ascii-2-clause-room
returns-in_err-push_ascii-2-clause-room g c =
    let split = c.in-Some-split_first_chunk.ensures.cases in
    let rest = c.loop-group.rest.now in
    let part = c.in-Some-split_first_chunk.group.now in
    let after = c.in-Some-split_first_chunk.after.now in
    let input = c.args.input.now in
    let parts = in_front rest part after 3 (omega (arith, split.2)) (omega arith) split.0 split.1 in
    refused c.args.output.now c.push_ascii-in-Some-split_first_chunk.new.output (base64_text input) c.from_residual-in_err-push_ascii-2.result
    (omega (arith, c.loop-group.invariant.grown, c.in_err-push_ascii-2.ensures.room.0))
    (none_for_all c.args.output.now c.loop-group.output input rest (base64_text part) after c.loop-group.invariant parts
    (subst (LacksRoom c.loop-group.output) c.group_text.ensures c.in_err-push_ascii-2.ensures.room.1))

pub loop-group-preserved : goal.loop-group-preserved
loop-group-preserved g c =
    let split = c.in-Some-split_first_chunk.ensures.cases in
    let rest = c.loop-group.rest.now in
    let part = c.in-Some-split_first_chunk.group.now in
    let after = c.in-Some-split_first_chunk.after.now in
    let parts = in_front rest part after 3 (omega (arith, split.2)) (omega arith) split.0 split.1 in
    more_encoded c.args.output.now c.loop-group.output c.push_ascii-in-Some-split_first_chunk.new.output
    c.args.input.now rest (base64_text part) after c.loop-group.invariant parts
    (c.in_ok-push_ascii-2.ensures.text ∙ rw c.group_text.ensures refl) c.in_ok-push_ascii-2.ensures.room.0

pub push_ascii-requires-then-not-is_empty : goal.push_ascii-requires-then-not-is_empty
push_ascii-requires-then-not-is_empty g c = rw c.last_text.ensures (text_ascii c.loop-group.rest.now)

pub returns-else-not-is_empty-clause-text : goal.returns-else-not-is_empty-clause-text
returns-else-not-is_empty-clause-text g c =
    all_encoded _ _ _ _ c.loop-group.invariant (eqb-true _ _ (sym c.is_empty.ensures ∙ c.if-not-is_empty.false))
