use Rattle.std.{proofs.Common.{◌≡◌, false, take}, specs.Char.is_ascii_uppercase, specs.List.list_any}
use Rattle.sfv_signatures.proofs.fields.has_upper_case.Given as goal

abbrev pub invariant-loop-byte : goal.invariant-loop-byte
invariant-loop-byte l = list_any is_ascii_uppercase (take l.byte-index l.byte-items) ≡ false
