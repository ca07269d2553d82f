use Rattle.std.proofs.Common.{refl}
use Rattle.sfv.specs.parser.Cursor.{version, rest}
use Rattle.sfv.proofs.{reads.Steps.parameter_none, visits.AsRead.{read_none, end_reads}}
use Rattle.sfv.proofs.parser.cursor.Cursor.parameters.Goals as goal

pub returns-then-not-next_is-clause-visited : goal.returns-then-not-next_is-clause-visited
returns-then-not-next_is-clause-visited g c =
    let t = rest c.args.self.now in
    end_reads g.V.Visitor c.args.self.now c.args.self.now t c.args.visitor.now c.args.visitor.now c.visit.new.visitor
    c.visit.result (read_none g.V.Visitor (version c.args.self.now) t c.args.visitor.now)
    (parameter_none (version c.args.self.now) t t (refl, c.if-not-next_is.ensures)) refl refl c.visit.ensures.taken
    c.visit.ensures.taken_read c.visit.ensures.failed c.visit.ensures.failed_read
