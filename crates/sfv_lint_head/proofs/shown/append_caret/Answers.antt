use Rattle.std.proofs.{Common.arith, lemmas.Grind.common_steps, lemmas.List.replicate-append-replicate}
use Rattle.sfv_lint_head.proofs.shown.append_caret.Goals as goal

pub loop-byte-preserved : goal.loop-byte-preserved
loop-byte-preserved c = grind (arith, common_steps, replicate-append-replicate, c.in_ok-append_blank.ensures)
