use Rattle.std.proofs.Common.{Some, sym}
use Rattle.sfv_c.proofs.check.check.Goals as goal

pub returns-in-Err : goal.returns-in-Err
returns-in-Err c =
    let syntax = rw (sym c.syntax_of.ensures) at c.in-Err.ensures.syntax in
    let memory = rw (sym c.syntax_of.ensures) at c.in-Err.ensures.memory in
    record { outcome = Some c.syntax_of.result; judged = (syntax.0, memory); in_numbers = c.of_error.ensures }
