use Rattle.std.{proofs.Common.{◌≡◌, false, take}, specs.List.list_any}
use Rattle.sfv_signatures.specs.SignatureBase.{is_line_break}
use Rattle.sfv_signatures.proofs.base.has_line_break.Given as goal

abbrev pub invariant-loop-byte : goal.invariant-loop-byte
invariant-loop-byte l = list_any is_line_break (take l.byte-index l.value) ≡ false
