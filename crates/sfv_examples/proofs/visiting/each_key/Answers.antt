use Rattle.std.proofs.Common.{refl, inl, inr}
use Rattle.sfv.{specs.Types.{Rfc9651, dictionary_field}, proofs.Callers.{never_fails, has_visitor_error}}
use Rattle.sfv_examples.{specs.Uses.IsMemoryError, proofs.Uses.of_error_alone}
use Rattle.sfv_examples.proofs.visiting.each_key.Goals as goal

pub returns-clause-accepted : goal.returns-clause-accepted
returns-clause-accepted g c a = of_error_alone _ _ c.parse_dictionary_with_visitor.result
    (never_fails _ _ _ _ Rfc9651 dictionary_field c.args.input.now _ a.0 c.parse_dictionary_with_visitor.result a.1
    (rw c.new.ensures at c.parse_dictionary_with_visitor.ensures.visited)
    (rw c.new.ensures at c.parse_dictionary_with_visitor.ensures.syntax)
    (has_visitor_error _ _ dictionary_field _ c.parse_dictionary_with_visitor.result
    (rw c.new.ensures at c.parse_dictionary_with_visitor.ensures.visitor)) (IsMemoryError (λ _. ⊥)) refl
    (λ error fails. elim fails [ inl h ↦ absurd h.6 | inr h ↦ absurd h.3 ]))
