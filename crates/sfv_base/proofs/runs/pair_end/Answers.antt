use Rattle.std.proofs.Common.{sym, arith, ◌∙◌}
use Rattle.sfv_base.proofs.RunEnds.{both_long, pair_whole, pair_before, pair_after, mask_none, mask_first}
use Rattle.sfv_base.proofs.runs.pair_end.Goals as goal

pub returns-then-outside-eq0 : goal.returns-then-outside-eq0
returns-then-outside-eq0 g c =
    let class = g.C.RunClass.class in
    let xs = c.args.bytes.now in
    let long = both_long class 8 xs _ c.requires.near c.requires.far c.ends_of-ends.ensures in
    sym (pair_whole class 8 xs _ c.requires.near c.requires.far c.ends_of-ends.ensures
    (mask_none class _ _ 16 c.outside_half-outside.ensures c.if-outside-eq0.true long))

pub returns-then-end-lt8 : goal.returns-then-end-lt8
returns-then-end-lt8 g c =
    let class = g.C.RunClass.class in
    let xs = c.args.bytes.now in
    let long = both_long class 8 xs _ c.requires.near c.requires.far c.ends_of-ends.ensures in
    let end = mask_first class _ _ c.outside_half-outside.ensures c.if-outside-eq0.false (omega (arith, long)) in
    let before = pair_before class 8 xs _ c.requires.near c.requires.far c.ends_of-ends.ensures in
    sym (before (omega (arith, end, c.if-end-lt8.true)) ∙ end)

pub returns : goal.returns
returns g c =
    let class = g.C.RunClass.class in
    let xs = c.args.bytes.now in
    let long = both_long class 8 xs _ c.requires.near c.requires.far c.ends_of-ends.ensures in
    let end = mask_first class _ _ c.outside_half-outside.ensures c.if-outside-eq0.false (omega (arith, long)) in
    let after = pair_after class 8 xs _ c.requires.near c.requires.far c.ends_of-ends.ensures in
    let same = after (omega (arith, end, c.if-end-lt8.false)) in
    omega (arith, same, end, c.if-end-lt8.false)
