use Rattle.std.proofs.{Common.refl, lemmas.Result.err_from_is_err_and}
use Rattle.sfv_tree.proofs.hash_seed.random_seed.Goals as goal

pub returns-in_err-fill-clause-failed : goal.returns-in_err-fill-clause-failed
returns-in_err-fill-clause-failed g c =
    let p = err_from_is_err_and c.from_residual.result c.from_residual.ensures.1 in
    rw (p.1, p.2) (c.fill.new.arg2, record { shown = _; shows = refl; left = _; met = c.in_err-fill.ensures; leaves = refl })
