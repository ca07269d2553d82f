use Rattle.std.proofs.Common.{◌≡◌, ◌∙◌, ap, Some}
use Rattle.sfv.specs.{BareItems.bare_value, CheckedTexts.text_of as key_text}
use Rattle.sfv.specs.{Statements.IsParsedAs, Trees.dictionary_tree, Types.{dictionary_field, Rfc9651}, Values.BareValue}
use Rattle.sfv_examples.proofs.Uses.{param_read}
use Rattle.sfv_examples.proofs.reading.param_of_member.Goals as goal

pub returns-in_default-clause-param : goal.returns-in_default-clause-param
returns-in_default-clause-param c =
    let value = dictionary_tree c.in_ok-dictionary.dictionary.entries in
    let read : IsParsedAs Rfc9651 dictionary_field c.args.input.now value =
    rw c.new.ensures at c.in_ok-dictionary.ensures.read in
    let there = param_read c.args.input.now value (key_text c.args.member) (key_text c.args.param) read in
    (read.raw, read.accepted, c.in_default.ensures ∙ there)

pub returns-clause-param : goal.returns-clause-param
returns-clause-param c =
    let value = dictionary_tree c.in_ok-dictionary.dictionary.entries in
    let read : IsParsedAs Rfc9651 dictionary_field c.args.input.now value =
    rw c.new.ensures at c.in_ok-dictionary.ensures.read in
    let there = param_read c.args.input.now value (key_text c.args.member) (key_text c.args.param) read in
    let copy : bare_value c.in_ok-copy.copy ≡ bare_value c.in-Some.value.now =
    c.in_ok-copy.ensures.value ∙ c.as_ref_item.ensures.value in
    (read.raw, read.accepted, ap (λ (b : BareValue). Some b) copy ∙ c.in-Some.ensures ∙ there)
