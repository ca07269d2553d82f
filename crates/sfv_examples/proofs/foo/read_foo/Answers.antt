use Rattle.std.proofs.{Common.{sym, refl, Ok, Err, ◌≡◌}, lemmas.Result.IfOk-weaker}
use Rattle.sfv.{specs.Field.dictionary_field, proofs.Callers.{answer_read, failure_read, has_visitor_error}}
use Rattle.sfv_examples.specs.{Foo.{foo, IsFooError}, FooSteps.{unread, foo_step, foo_found}}
use Rattle.sfv_examples.proofs.Foos.{all_found}
use Rattle.sfv_examples.proofs.foo.read_foo.Goals as goal

pub returns-clause-read : goal.returns-clause-read
returns-clause-read c = IfOk-weaker c.parse_dictionary_with_visitor.result _ _ (λ out h.
    let read = answer_read (λ s. s) foo_step foo_found (λ out. Ok out) dictionary_field foo unread (λ s out h. sym h)
    all_found refl h in (read.0, read.1, sym read.2))
    (rw (c.with_version-parser.ensures, c.new.ensures, c.new-2.ensures) at c.parse_dictionary_with_visitor.ensures.visited)

pub returns-clause-failed : goal.returns-clause-failed
returns-clause-failed c = failure_read (λ s. s) foo_step foo_found (λ fault. Err fault) dictionary_field foo unread
    (λ same. cc) (λ s fault h. sym h) all_found refl (λ s found. foo_found s ≡ Ok found)
    c.args.version c.args.input.now c.parse_dictionary_with_visitor.result
    (rw (c.with_version-parser.ensures, c.new.ensures, c.new-2.ensures) at c.parse_dictionary_with_visitor.ensures.syntax)
    (has_visitor_error _ _ dictionary_field _ c.parse_dictionary_with_visitor.result
    (rw (c.with_version-parser.ensures, c.new.ensures, c.new-2.ensures) at c.parse_dictionary_with_visitor.ensures.visitor))
    (IsFooError c.args.version c.args.input.now) (λ e h. h) (λ fault h. (h.0, h.1, sym h.2))
