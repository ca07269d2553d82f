use Rattle.std.proofs.Common.{◌≡◌, true, false, sym, ◌∙◌, Some, None, codes}
use Rattle.http_header.specs.Token.{lowercase}
use Rattle.sfv.specs.{CheckedTexts.text_of, Trees.pairs_tree}
use Rattle.sfv_headers.specs.Lines.{lines_in}
use Rattle.sfv_signatures.specs.HttpMessages.{has, string_param, type_in}
use Rattle.sfv_signatures.proofs.Dispatch.{with_key, with_sf, untyped}
use Rattle.sfv_signatures.proofs.fields.append_lines.Goals as goal

pub returns-in-Some : goal.returns-in-Some
returns-in-Some c =
    let ps = pairs_tree c.args.params.now.entries in
    let bs : has (codes "bs") (pairs_tree c.args.params.now.entries) ≡ false =
    rw c.key_ref.ensures at (sym c.has.ensures ∙ c.if-has.false) in
    let some : string_param (codes "key") (pairs_tree c.args.params.now.entries) ≡ Some (text_of c.in-Some.key) =
    rw c.key_ref-2.ensures at (sym c.in-Some.ensures) in
    with_key c.args.base.now c.append_dictionary_member.new.base c.append_dictionary_member.result (has (codes "bs") ps)
    (string_param (codes "key") ps) (has (codes "sf") ps) (type_in c.args.types.now c.args.name.now)
    (lines_in c.args.fields.now (lowercase c.args.name.now)) (text_of c.in-Some.key) c.as_slice.result.now bs some
    (c.as_slice.ensures.value ∙ c.in_ok-text.ensures) c.append_dictionary_member.ensures

pub returns-in_default-type_in : goal.returns-in_default-type_in
returns-in_default-type_in c =
    let ps = pairs_tree c.args.params.now.entries in
    let bs : has (codes "bs") (pairs_tree c.args.params.now.entries) ≡ false =
    rw c.key_ref.ensures at (sym c.has.ensures ∙ c.if-has.false) in
    let none : string_param (codes "key") (pairs_tree c.args.params.now.entries) ≡ None =
    rw c.key_ref-2.ensures at (sym c.in_default.ensures) in
    let sf : has (codes "sf") (pairs_tree c.args.params.now.entries) ≡ true =
    rw c.key_ref-3.ensures at (sym c.has-2.ensures ∙ c.if-not-has.false) in
    untyped (has (codes "bs") ps) (string_param (codes "key") ps) (has (codes "sf") ps)
    (type_in c.args.types.now c.args.name.now) (lines_in c.args.fields.now (lowercase c.args.name.now)) bs none sf
    (sym c.in_default-type_in.ensures)

pub returns : goal.returns
returns c =
    let ps = pairs_tree c.args.params.now.entries in
    let bs : has (codes "bs") (pairs_tree c.args.params.now.entries) ≡ false =
    rw c.key_ref.ensures at (sym c.has.ensures ∙ c.if-has.false) in
    let none : string_param (codes "key") (pairs_tree c.args.params.now.entries) ≡ None =
    rw c.key_ref-2.ensures at (sym c.in_default.ensures) in
    let sf : has (codes "sf") (pairs_tree c.args.params.now.entries) ≡ true =
    rw c.key_ref-3.ensures at (sym c.has-2.ensures ∙ c.if-not-has.false) in
    with_sf c.args.base.now c.append_strict.new.base c.append_strict.result (has (codes "bs") ps)
    (string_param (codes "key") ps) (has (codes "sf") ps) (type_in c.args.types.now c.args.name.now)
    (lines_in c.args.fields.now (lowercase c.args.name.now)) c.in-Some-type_in.kind c.as_slice-2.result.now bs none sf
    (sym c.in-Some-type_in.ensures) (c.as_slice-2.ensures.value ∙ c.in_ok-text-2.ensures) c.append_strict.ensures
