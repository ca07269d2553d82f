use Rattle.sfv_writer.proofs.ReadBack.{value_read_back}
use Rattle.sfv.specs.Field.{item_field, item_tree}
use Rattle.sfv.proofs.field_type.ItemFieldType.append_to.Goals as goal

pub returns-clause-read_back : goal.returns-clause-read_back
returns-clause-read_back c = value_read_back c.args.version item_field (item_tree c.args.self.now)
    c.in_ok-append_item.ensures.value c.in_ok-append_item.ensures.unsupported
