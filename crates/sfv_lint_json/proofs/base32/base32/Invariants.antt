use Rattle.std.{proofs.Common.{◌≡◌, ◌++◌, string_bytes}, specs.Slice.Iter.{chunks_rest, chunks_size}}
use Rattle.sfv_lint_json.specs.Base32.{base32_text}
use Rattle.sfv_lint_json.proofs.base32.base32.Given as goal

abbrev pub invariant-loop-group : goal.invariant-loop-group
invariant-loop-group l = (chunks_size l.group-iterator ≡ 5)
    × (string_bytes l.text ++ base32_text (chunks_rest l.group-iterator) ≡ base32_text l.bytes)
