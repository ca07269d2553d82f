use Rattle.std.proofs.Common.{sym, ◌∙◌, ap}
use Rattle.http_header.specs.{HeaderMap.get_all, Token.lowercase}
use Rattle.sfv.specs.Trees.{pairs_tree}
use Rattle.sfv_headers.specs.Lines.{lines_in}
use Rattle.sfv_signatures.specs.{Components.lines_from, HttpMessages.type_in}
use Rattle.sfv_signatures.proofs.Dispatch.{none_first, some_first, lines_absent, lines_given, upper_none, lower_lines}
use Rattle.sfv_signatures.proofs.Dispatch.{no_section}
use Rattle.sfv_signatures.proofs.fields.append_field.Goals as goal

pub returns-in_default : goal.returns-in_default
returns-in_default c = lines_absent (pairs_tree c.args.params.now.entries) (type_in c.args.types.now c.args.name.now)
    (lines_from c.args.name.now c.args.section)
    (ap (lines_from c.args.name.now) c.in_default.is ∙ no_section c.args.name.now)

pub returns-then-has_upper_case : goal.returns-then-has_upper_case
returns-then-has_upper_case c = lines_absent (pairs_tree c.args.params.now.entries)
    (type_in c.args.types.now c.args.name.now) (lines_from c.args.name.now c.args.section)
    (ap (lines_from c.args.name.now) c.in-Some.is
    ∙ upper_none c.args.name.now c.in-Some.fields (sym c.has_upper_case.ensures ∙ c.if-has_upper_case.true))

pub returns-in_default-get : goal.returns-in_default-get
returns-in_default-get c = lines_absent (pairs_tree c.args.params.now.entries)
    (type_in c.args.types.now c.args.name.now) (lines_from c.args.name.now c.args.section)
    (ap (lines_from c.args.name.now) c.in-Some.is
    ∙ lower_lines c.args.name.now c.in-Some.fields (sym c.has_upper_case.ensures ∙ c.if-has_upper_case.false)
    ∙ none_first (λ v. v.bytes) (get_all c.in-Some.fields.now (lowercase c.args.name.now)) c.in_default-get.ensures.value)

pub returns : goal.returns
returns c = lines_given (pairs_tree c.args.params.now.entries) (type_in c.args.types.now c.args.name.now)
    (lines_from c.args.name.now c.args.section) c.args.base.now c.append_lines.new.base c.append_lines.result
    (lines_in c.in-Some.fields.now (lowercase c.args.name.now)) c.in-Some-get.field-0.now.bytes
    (ap (lines_from c.args.name.now) c.in-Some.is ∙ lower_lines c.args.name.now c.in-Some.fields
    (sym c.has_upper_case.ensures ∙ c.if-has_upper_case.false)) (some_first (λ v. v.bytes) (get_all c.in-Some.fields.now
    (lowercase c.args.name.now)) c.in-Some-get.field-0.now c.in-Some-get.ensures.value) c.append_lines.ensures
