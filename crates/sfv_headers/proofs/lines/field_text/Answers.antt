use Rattle.std.proofs.Common.{map}
use Rattle.sfv_headers.{specs.Lines.lines_in, proofs.Joining.{none_yet, one_more}}
use Rattle.sfv_headers.proofs.lines.field_text.Goals as goal

pub loop-value-init : goal.loop-value-init
loop-value-init g c = (
  tt,
  tt,
  rw (c.into_iter-value-iterator.ensures.into_iter_gives, c.get_all-value-items.ensures.value)
      (none_yet (lines_in c.args.headers.now (g.K.AsHeaderName.name c.args.name))),
)

pub loop-value-preserved : goal.loop-value-preserved
loop-value-preserved g c = (
  tt,
  tt,
  one_more (lines_in c.args.headers.now (g.K.AsHeaderName.name c.args.name)) c.loop-value.text c.as_bytes.result.now
      (map (λ value. value.bytes) c.next.new.self) c.in_ok-add_line.field-0
      (rw (c.as_bytes.ensures.value) (rw (c.in-Some.ensures.steps) at c.loop-value.invariant.2))
      c.in_ok-add_line.ensures.text c.in_ok-add_line.ensures.borrowed,
)
