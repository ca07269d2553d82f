use Rattle.sfv.proofs.{reads.Errors.{left_with, ErrorOf-fault}, visits.AsRead.{key_error, keyed_stops, keyed_reads}}
use Rattle.sfv.proofs.parser.member.KeyedEntryMember.consume.Goals as goal

pub returns-in_err-key-clause-visited : goal.returns-in_err-key-clause-visited
returns-in_err-key-clause-visited g c = rw (left_with c.from_residual.ensures.1)
    (key_error g.V.Visitor c.args.cursor.now c.short_key.new.self c.args.visitor.now _
    (ErrorOf-fault _ _ _ c.in_err-key.ensures.read))

pub returns-in_err-visit-clause-visited : goal.returns-in_err-visit-clause-visited
returns-in_err-visit-clause-visited g c =
    rw (left_with c.from_residual-in_err-visit.ensures.1)
    (keyed_stops g.V.Visitor c.args.cursor.now c.short_key.new.self c.short_key.new.self c.in_ok-key.key c.args.visitor.now
    c.visit.new.visitor _ c.in_ok-key.ensures.read.0 c.in_err-visit.ensures.failed c.in_err-visit.ensures.failed_read)

pub returns-clause-visited : goal.returns-clause-visited
returns-clause-visited g c = keyed_reads g.V.Visitor c.args.cursor.now c.short_key.new.self c.member_value.new.self
    c.in_ok-key.key c.args.visitor.now c.visit.new.visitor c.member_value.new.visitor
    c.member_value.result c.in_ok-key.ensures.read.1 c.in_ok-key.ensures.read.0
    c.in_ok-visit.ensures.taken c.in_ok-visit.ensures.taken_read c.member_value.ensures.visited
