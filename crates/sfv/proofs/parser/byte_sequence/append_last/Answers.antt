use Rattle.std.proofs.Common.{◌∙◌, ◌++◌, ℕ, List, ap, refl, sym, eqb-true}
use Rattle.sfv.proofs.reads.Coded.{none_after, zeros_each, filled_each, filled_decoded}
use Rattle.sfv.proofs.parser.byte_sequence.append_last.Goals as goal

pub returns-then-is_empty-clause-bytes : goal.returns-then-is_empty-clause-bytes
returns-then-is_empty-clause-bytes c = none_after _ _ (eqb-true _ _ (sym c.is_empty.ensures ∙ c.if-is_empty.true))

pub block_bytes-requires : goal.block_bytes-requires
block_bytes-requires c = filled_each _ _ _ c.copy_from_slice.ensures.after c.requires.symbols zeros_each

pub returns-clause-bytes : goal.returns-clause-bytes
returns-clause-bytes c = c.in_ok-extend_from_slice.ensures.items ∙ ap (λ (l : List ℕ). c.args.bytes.now.items ++ l)
    (filled_decoded _ _ _ _ c.copy_from_slice.ensures.after refl c.requires.few c.block_bytes.ensures)
