use Rattle.std.proofs.Common.{[], ◌∷◌, ◌++◌, subst, rules}
use Rattle.std.{specs.Iterator.{IsFinite, Yields}, proofs.iter.Next.Yields-more}
use Rattle.sfv_writer.proofs.Checks.{at_exit, each_more, each_stops}
use Rattle.sfv_writer.proofs.version_check.check_all.Goals as goal

pub loop-part-preserved : goal.loop-part-preserved
loop-part-preserved g c =
    let goes : g.I.Iterator.can_next c.next.new.self × IsFinite (g.I.Iterator.remaining c.next.new.self) =
    search rules in (
      goes.0,
      goes.1,
      each_more c.args.version g.T.HasValues.values c.loop-part.yielded c.in-Some.part c.loop-part.invariant.2
          c.in_ok-check_values.ensures,
    )

pub returns-in_err-check_values : goal.returns-in_err-check_values
returns-in_err-check_values g c =
    let taken = c.loop-part.yielded in
    let ran = subst (λ s. Yields g.I.Iterator.next_gives s taken c.loop-part.part-iterator)
    c.into_iter-part-iterator.ensures.into_iter_gives c.loop-part.yielded_by in
    at_exit c.from_residual.result _ _ _ c.from_residual.ensures.1 (
      taken ++ c.in-Some.part ∷ [],
      c.next.new.self,
      Yields-more g.I.Iterator.next_gives c.args.parts taken c.loop-part.part-iterator c.in-Some.part c.next.new.self ran c.in-Some.ensures.steps,
      each_stops c.args.version g.T.HasValues.values taken c.in-Some.part [] _ c.loop-part.invariant.2 c.in_err-check_values.ensures,
    )

pub returns : goal.returns
returns g c =
    let ran = subst (λ s. Yields g.I.Iterator.next_gives s c.loop-part.yielded c.loop-part.part-iterator)
    c.into_iter-part-iterator.ensures.into_iter_gives c.loop-part.yielded_by in
    (c.loop-part.yielded, (c.next.new.self, (c.loop-part.part-iterator, ran, c.in-None.ensures.steps)), c.loop-part.invariant.2)
