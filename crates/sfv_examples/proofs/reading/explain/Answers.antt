use Rattle.std.{proofs.Common.{rules, ◌≡◌, ◌++◌, ◌∙◌, sym, ap, string_bytes, codes, Some}, specs.List.repeat}
use Rattle.sfv.specs.{Errors.{index_of, kind_of}, Messages.message_of, Statements.IsParsedAs, Trees.list_tree}
use Rattle.sfv.{specs.Types.{list_field, Rfc9651}, proofs.Callers.located_error}
use Rattle.sfv_examples.proofs.reading.explain.Goals as goal

pub returns-in_default-clause-accepted : goal.returns-in_default-clause-accepted
returns-in_default-clause-accepted c =
    let read : IsParsedAs Rfc9651 list_field c.args.input.now (list_tree c.in_default.field-0.items) =
    rw c.new.ensures at c.in_default.ensures.read in
    λ none. (read.raw, read.accepted)

pub returns-clause-explained : goal.returns-clause-explained
returns-clause-explained c =
    let here : index_of c.in-Err.error ≡ Some c.in-Some.index = sym c.index.ensures ∙ c.in-Some.is in
    let fault = located_error Rfc9651 list_field c.args.input.now c.in-Err.error c.in-Some.index
    (rw c.new.ensures at c.in-Err.ensures.rejected) here in
    let written : string_bytes c.push_str-2.new.self ≡ repeat c.in-Some.index (codes " ") ++ codes "^ "
    ++ message_of (kind_of c.in-Err.error) = search rules in
    let message = ap (λ k. repeat c.in-Some.index (codes " ") ++ codes "^ " ++ message_of k) fault.1 in
    record { fault = fault.0; index = c.in-Some.index; located = fault.2; text_is = written ∙ message }
