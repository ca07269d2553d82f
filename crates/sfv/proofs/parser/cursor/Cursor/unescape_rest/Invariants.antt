use Rattle.std.proofs.Common.{◌≡◌, length}
use Rattle.sfv_model.specs.Quoted.{after_bytes}
use Rattle.sfv.specs.parser.{Cursor.{kept, rest}, Quoted.inside}
use Rattle.sfv.proofs.parser.cursor.Cursor.unescape_rest.Given as goal

abbrev pub invariant-loop-cursor : goal.invariant-loop-cursor
invariant-loop-cursor g l = record {
  read : after_bytes l.bytes.items (inside g.Q.QuotedText.display (rest l.cursor))
      ≡ after_bytes l.fn.plain (inside g.Q.QuotedText.display (rest l.fn.self));
  kept : kept l.cursor ≡ kept l.fn.self;
}

abbrev pub decreases-loop-cursor : goal.decreases-loop-cursor
decreases-loop-cursor g l = length (rest l.cursor)
