use Rattle.std.proofs.Common.{◌-◌, drop}
use Rattle.sfv_model.{specs.Quoted.after_pieces, proofs.quoted.DisplaySteps.LeadsTo}
use Rattle.sfv.proofs.parser.display_string.piece_index.Given as goal

abbrev pub invariant-loop : goal.invariant-loop
invariant-loop l = LeadsTo l.input l.index (l.count - l.counter) (after_pieces l.fn.count (drop l.fn.start l.fn.input))
