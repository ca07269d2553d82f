use Rattle.std.proofs.Common.{◌↔◌, IsTrue, IfOk, OnOk, subst, rules}
use Rattle.sfv_spec.specs.{Canonical.canonical, Values.{IsFieldValue, HasMember}}
use Rattle.sfv_spec.specs.declared.field_kind.FieldKind.TheVariants.{List as list_field}
use Rattle.sfv_writer.specs.Written.{AppendsOrKeeps}
use Rattle.sfv_serializer.specs.{ScriptSteps.list_described, Scripts.described_list}
use Rattle.sfv_serializer.proofs.{Described.{list_described_is, list_lacks}, WhereFit.read_back_where_fit}
use Rattle.sfv_serializer.proofs.script.run_list.Goals as goal

pub returns-then-is_err-clause-room : goal.returns-then-is_err-clause-room
returns-then-is_err-clause-room c = list_lacks c.args.text.now c.args.calls.now c.write_list-written.result c.write_list-written.ensures.room

pub returns-else-is_err-clause-text : goal.returns-else-is_err-clause-text
returns-else-is_err-clause-text c =
    let old : AppendsOrKeeps c.args.text.now c.write_list-written.new.text (canonical list_field (list_described c.args.calls.now))
    c.write_list-written.result = search rules in
    subst (λ raw. AppendsOrKeeps c.args.text.now c.write_list-written.new.text (canonical list_field raw) c.write_list-written.result)
    (list_described_is c.args.calls.now) old

pub returns-else-is_err-clause-has_member : goal.returns-else-is_err-clause-has_member
returns-else-is_err-clause-has_member c =
    subst (λ raw. IfOk c.write_list-written.result (λ member. IsTrue member ↔ HasMember list_field raw))
    (list_described_is c.args.calls.now) c.write_list-written.ensures.has_member

pub returns-else-is_err-clause-value : goal.returns-else-is_err-clause-value
returns-else-is_err-clause-value c = subst (λ raw. OnOk c.write_list-written.result (IsFieldValue list_field raw))
    (list_described_is c.args.calls.now) c.write_list-written.ensures.value

pub returns-else-is_err-clause-read_back : goal.returns-else-is_err-clause-read_back
returns-else-is_err-clause-read_back c = read_back_where_fit c.write_list-written.result list_field (described_list c.args.calls.now)
    (subst (λ raw. OnOk c.write_list-written.result (IsFieldValue list_field raw)) (list_described_is c.args.calls.now)
    c.write_list-written.ensures.value)
