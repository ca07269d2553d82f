use Rattle.std.proofs.{Common.{refl, sym, arith}, lemmas.Bool.false≢true}
use Rattle.sfv.{specs.Trees.item_tree, proofs.Callers.{Any-map, Any-from_map}}
use Rattle.sfv_signatures.specs.SignatureBase.{AreSame}
use Rattle.sfv_signatures.proofs.identifier.is_repeated.Goals as goal

pub returns-then-is_same : goal.returns-then-is_same
returns-then-is_same c = (
  λ _. Any-map (AreSame (item_tree c.args.identifier.now)) item_tree c.args.before.now (
    c.loop-other.other-index,
    c.other-item.result,
    c.loop-other-test.true,
    sym c.other-item.is,
    c.is_same.ensures.0 c.if-is_same.true,
  ),
  λ _. refl,
)

pub returns : goal.returns
returns c = (
  λ e. absurd (false≢true e),
  λ h. let some = Any-from_map (AreSame (item_tree c.args.identifier.now)) item_tree c.args.before.now h in
      absurd (c.loop-other.invariant some.0 some.1 (omega (arith, some.2)) some.3 some.4),
)
