use Rattle.std.proofs.{Common.{arith, refl}, lemmas.Bool.Decides.nat_tests, lemmas.List.nil_from_length}
use Rattle.sfv_spec.specs.Base64.{base64_text}
use Rattle.sfv_base64.proofs.encode.Goals as goal

pub returns-then-is_empty-clause-text : goal.returns-then-is_empty-clause-text
unfolding base64_text
returns-then-is_empty-clause-text c =
    rw (nil_from_length c.args.bytes.now (grind (arith, nat_tests)), c.new.ensures.bytes) refl
