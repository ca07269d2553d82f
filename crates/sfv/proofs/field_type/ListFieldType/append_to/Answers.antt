use Rattle.std.proofs.Common.{rules, ◌≡◌, length, IsTrue, ◌↔◌}
use Rattle.sfv_writer.proofs.ReadBack.{value_read_back}
use Rattle.sfv.{specs.Field.{list_field, member_tree, list_tree}, proofs.Emptiness.first_unless_empty}
use Rattle.sfv.proofs.field_type.ListFieldType.append_to.Goals as goal

pub returns-clause-has_member : goal.returns-clause-has_member
returns-clause-has_member c =
    let empty : IsTrue c.is_empty.result ↔ (length c.args.self.now.items ≡ 0) = search rules in
    first_unless_empty member_tree c.args.self.now.items c.is_empty.result empty

pub returns-clause-read_back : goal.returns-clause-read_back
returns-clause-read_back c = value_read_back c.args.version list_field (list_tree c.args.self.now.items)
    c.in_ok-append_list.ensures.value c.in_ok-append_list.ensures.unsupported
