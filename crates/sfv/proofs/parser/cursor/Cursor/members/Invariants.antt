use Rattle.std.proofs.Common.{◌≡◌, ◌+◌, false, cond, length, []}
use Rattle.sfv_model.specs.Fields.{members_at}
use Rattle.sfv.specs.parser.{Cursor.{version, rest}, Members.{member_parts, one_member_at}}
use Rattle.sfv.proofs.visits.{AsRead.Awaits, Loops.members_loop}
use Rattle.sfv.proofs.parser.cursor.Cursor.members.Given as goal

abbrev pub invariant-loop-wants : goal.invariant-loop-wants
invariant-loop-wants g l = record {
  ready : g.V.Visitor.is_ready l.visitor;
  awaits : Awaits g.V.Visitor (members_loop g.M.Member.keyed) l.fn.self (members_at (member_parts g.M.Member.keyed)
      (one_member_at g.M.Member.keyed (version l.fn.self)) (rest l.fn.self)) l.wants l.self l.fn.visitor l.visitor;
  end : l.wants ≡ false → rest l.self ≡ [];
}

abbrev pub decreases-loop-wants : goal.decreases-loop-wants
decreases-loop-wants g l = cond l.wants (1 + length (rest l.self)) 0
