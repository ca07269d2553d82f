use Rattle.std.proofs.Common.{◌≡◌, inr, sym, ◌∙◌, subst, IsTrue, None}
use Rattle.sfv.specs.{CheckedTexts.text_of, Classes.is_key, Ordered.last_of, Parsers.IsParseError}
use Rattle.sfv.specs.{Statements.IsParsedAs, Trees.dictionary_tree, Types.{dictionary_field, Rfc9651}}
use Rattle.sfv_signatures.specs.HttpMessages.{member_of}
use Rattle.sfv_signatures.proofs.FieldValues.{parse_failed, no_member, not_a_key, invalid_key}
use Rattle.sfv_signatures.proofs.fields.append_dictionary_member.Goals as goal

pub returns-in-Err : goal.returns-in-Err
returns-in-Err c =
    let rejected : IsParseError Rfc9651 dictionary_field c.args.text.now c.in-Err.error =
    rw c.new.ensures at c.in-Err.ensures.rejected in
    parse_failed dictionary_field (member_of (text_of c.args.key)) c.args.text.now c.in-Err.error c.parse_fault.result
    c.parse_fault.ensures rejected

pub returns-in_default : goal.returns-in_default
returns-in_default c =
    let read : IsParsedAs Rfc9651 dictionary_field c.args.text.now (dictionary_tree c.in-Ok.dictionary.entries) =
    rw c.new.ensures at c.in-Ok.ensures.read in
    inr (not_a_key (text_of c.args.key) c.args.text.now (dictionary_tree c.in-Ok.dictionary.entries) read
    (λ key. invalid_key c.as_str.result.now c.in_default.field-0 c.in_default.ensures
    (subst (λ t. IsTrue (is_key t)) (sym c.as_str.ensures.text) key)))

pub returns-in_default-find_entry : goal.returns-in_default-find_entry
returns-in_default-find_entry c =
    let read : IsParsedAs Rfc9651 dictionary_field c.args.text.now (dictionary_tree c.in-Ok.dictionary.entries) =
    rw c.new.ensures at c.in-Ok.ensures.read in
    let members = dictionary_tree c.in-Ok.dictionary.entries in
    inr (no_member (text_of c.args.key) c.args.text.now members read (subst (λ k. last_of k members ≡ None)
    (c.in-Ok-from_str.ensures.0 ∙ c.as_str.ensures.text) (sym c.in_default-find_entry.ensures.last)))
