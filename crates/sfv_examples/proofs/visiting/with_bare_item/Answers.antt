use Rattle.std.{proofs.Common.refl, specs.Prelude.⊤, proofs.lemmas.Result.IfOk-weaker}
use Rattle.sfv.{specs.Types.{Rfc9651, item_field}, proofs.Callers.{never_fails, fails_in, has_visitor_error}}
use Rattle.sfv_examples.specs.Uses.{IsMemoryError}
use Rattle.sfv_examples.proofs.{Called.{called, failed_first}, Uses.{of_error_alone, read_failed}}
use Rattle.sfv_examples.proofs.visiting.with_bare_item.Goals as goal

pub returns-clause-accepted : goal.returns-clause-accepted
returns-clause-accepted g c a = of_error_alone _ _ c.parse_item_with_visitor.result
    (never_fails _ _ _ _ Rfc9651 item_field c.args.input.now _ a.0 c.parse_item_with_visitor.result a.1
    (rw c.new.ensures at c.parse_item_with_visitor.ensures.visited)
    (rw c.new.ensures at c.parse_item_with_visitor.ensures.syntax)
    (has_visitor_error _ _ item_field _ c.parse_item_with_visitor.result
    (rw c.new.ensures at c.parse_item_with_visitor.ensures.visitor)) (IsMemoryError (λ _. ⊤)) refl (λ error fails. tt))

pub returns-clause-read : goal.returns-clause-read
returns-clause-read g c = IfOk-weaker c.parse_item_with_visitor.result _ _ (λ out h. (h.raw, h.accepted))
    (rw c.new.ensures at c.parse_item_with_visitor.ensures.visited)

pub returns-clause-called : goal.returns-clause-called
returns-clause-called g c = IfOk-weaker c.parse_item_with_visitor.result _ _ (λ out h. called {T = g.row.T.Denot}
    (goal.F-post g) c.args.f c.item_visitor_with.result c.item_visitor_with.ensures.waiting c.args.input.now out h)
    (rw c.new.ensures at c.parse_item_with_visitor.ensures.visited)

pub returns-clause-failed : goal.returns-clause-failed
returns-clause-failed g c = read_failed _ _ _ item_field c.args.input.now (λ e h. h.0)
    (λ error h. failed_first {T = g.row.T.Denot} (goal.F-post g) c.args.f c.item_visitor_with.result
    c.item_visitor_with.ensures.waiting c.args.input.now h.0 error h.1 (fails_in _ _ _ _ _ _ h.2))
    c.parse_item_with_visitor.result (rw c.new.ensures at c.parse_item_with_visitor.ensures.syntax)
    (rw c.new.ensures at c.parse_item_with_visitor.ensures.first)
