use Rattle.std.proofs.Common.{◌∙◌, ap, not, refl, [], true≢false}
use Rattle.sfv.specs.parser.{Cursor.version, Members.{member_parts, one_member_at}}
use Rattle.sfv.proofs.reads.{Delimiters.{members_none, members_first, ends_there}, Errors.left_with}
use Rattle.sfv.proofs.visits.AsRead.{awaits_first, awaits_next, turn_shorter, delimiter_error}
use Rattle.sfv.proofs.visits.{Loops.members_loop, Passed.{passes_then, passes_spaces, Passing-member_delimiter}}
use Rattle.sfv.proofs.parser.cursor.Cursor.members.Goals as goal

pub returns-then-is_none-clause-visited : goal.returns-then-is_none-clause-visited
returns-then-is_none-clause-visited g c t pass = (
  t,
  passes_then t _ _ pass (passes_spaces _ _ _ c.skip_sp.ensures.skipped.1),
  (
    [],
    members_none (member_parts g.M.Member.keyed) (one_member_at g.M.Member.keyed (version c.args.self.now)) _ _ _
        c.skip_sp.ensures.skipped.1 (rw (← c.peek.ensures) (c.is_none.ensures ∙ ap not c.if-is_none.true)),
    refl,
    c.skip_sp.ensures.kept,
  ),
)

pub loop-wants-init : goal.loop-wants-init
loop-wants-init g c = record {
  ready = c.requires;
  awaits = awaits_first g.V.Visitor (members_loop g.M.Member.keyed) c.args.self.now _ c.skip_sp.new.self
      c.args.visitor.now (passes_spaces _ _ _ c.skip_sp.ensures.skipped.1) (
        members_first (member_parts g.M.Member.keyed)
            (one_member_at g.M.Member.keyed (version c.args.self.now)) _ _ _ c.skip_sp.ensures.skipped.1
            (rw (← c.peek.ensures) (c.is_none.ensures ∙ ap not c.if-is_none.false)),
        c.skip_sp.ensures.kept,
      );
  end = λ e. absurd (true≢false e);
}

pub returns-in_err-consume-clause-visited : goal.returns-in_err-consume-clause-visited
returns-in_err-consume-clause-visited g c =
    let awaits = rw c.loop-wants-test.true at c.loop-wants.invariant.awaits in
    rw (left_with c.from_residual.ensures.1)
    (awaits.1 c.consume.new.cursor c.consume.new.visitor _ c.in_err-consume.ensures.visited)

pub returns-in_err-wants-clause-visited : goal.returns-in_err-wants-clause-visited
returns-in_err-wants-clause-visited g c =
    let awaits = rw c.loop-wants-test.true at c.loop-wants.invariant.awaits in
    let read = awaits.0 c.consume.new.cursor c.consume.new.visitor c.in_ok-consume.ensures.visited in
    rw (left_with c.from_residual-in_err-wants.ensures.1)
    (delimiter_error g.V.Visitor (members_loop g.M.Member.keyed) c.args.self.now _ c.consume.new.cursor
    c.consume_comma.new.self c.args.visitor.now c.consume.new.visitor _ read c.in_err-wants.ensures)

pub loop-wants-smaller : goal.loop-wants-smaller
loop-wants-smaller g c =
    turn_shorter g.V.Visitor g.M.Member.keyed c.loop-wants.wants c.in_ok-wants.wants c.loop-wants.self
    c.consume.new.cursor c.consume_comma.new.self c.loop-wants.visitor c.consume.new.visitor c.loop-wants-test.true
    c.in_ok-consume.ensures.visited c.in_ok-wants.ensures

pub loop-wants-preserved : goal.loop-wants-preserved
loop-wants-preserved g c =
    let awaits = rw c.loop-wants-test.true at c.loop-wants.invariant.awaits in
    let read = awaits.0 c.consume.new.cursor c.consume.new.visitor c.in_ok-consume.ensures.visited in
    record {
      ready = c.in_ok-consume.ensures.ready;
      awaits = awaits_next g.V.Visitor (members_loop g.M.Member.keyed) c.args.self.now _ c.in_ok-wants.wants
          c.consume.new.cursor c.consume_comma.new.self c.args.visitor.now c.consume.new.visitor Passing-member_delimiter
          read c.in_ok-wants.ensures;
      end = λ e. ends_there _ _ (rw e at c.in_ok-wants.ensures.0);
    }
