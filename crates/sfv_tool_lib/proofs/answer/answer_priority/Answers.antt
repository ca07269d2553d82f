use Rattle.std.proofs.Common.{◌≡◌, ℕ, List, ◌++◌, ap, ◌∙◌, codes, string_bytes}
use Rattle.sfv_http_fields.specs.Priority.{priority_text, value_of}
use Rattle.sfv_tool_lib.proofs.Lines.{priority_unwritten}
use Rattle.sfv_tool_lib.proofs.answer.answer_priority.Goals as goal

pub returns-clause-accepted : goal.returns-clause-accepted
returns-clause-accepted c =
    let value = value_of c.in_ok-priority.priority in
    let text : string_bytes c.write_priority.new.text ≡ priority_text value =
    rw c.new-text.ensures.bytes at c.in_ok-write_priority.ensures.text in
    record {
      value = value;
      read = rw c.without_newline.ensures at c.in_ok-priority.ensures.read;
      written = c.in_ok-text.ensures.line ∙ ap (λ (t : List ℕ). t ++ codes "\n") text;
    }

pub returns-in_err-write_priority-clause-failed : goal.returns-in_err-write_priority-clause-failed
returns-in_err-write_priority-clause-failed c = priority_unwritten c.args.version c.args.input.now
    (value_of c.in_ok-priority.priority) c.from_residual-in_err-write_priority.result
    c.from_residual-in_err-write_priority.ensures.1 (rw c.without_newline.ensures at c.in_ok-priority.ensures.read)

pub returns-in_err-text-clause-failed : goal.returns-in_err-text-clause-failed
returns-in_err-text-clause-failed c = priority_unwritten c.args.version c.args.input.now
    (value_of c.in_ok-priority.priority) c.from_residual-in_err-text.result
    (rw c.in_err-text.ensures.out_of_memory at c.from_residual-in_err-text.ensures.1)
    (rw c.without_newline.ensures at c.in_ok-priority.ensures.read)
