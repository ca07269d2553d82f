use Rattle.std.proofs.Common.{◌≡◌, ◌++◌, ◌∙◌, ℕ, length, ap, ap₂, arith, length-append, length-take-le}
use Rattle.std.proofs.lemmas.Simd.{pick_l_whole}
use Rattle.sfv_base.proofs.runs.ends_of.Goals as goal

pub returns : goal.returns
returns c =
    let first = c.in-Some.first.now in
    let last = c.in-Some-last_chunk.last.now in
    let front = c.in-Some.ensures.cases in
    let back = c.in-Some-last_chunk.ensures.cases in
    let long : length (first ++ last) ≡ 16 = omega (
      arith,
      length-append first last,
      ap (length {A = ℕ}) front.same,
      length-take-le 8 c.args.bytes.now front.enough,
      ap (length {A = ℕ}) back.1.same,
      back.1.long,
    ) in
    pick_l_whole 0 (first ++ last) 16 long ∙ ap₂ (λ a b. a ++ b) front.same back.1.same
