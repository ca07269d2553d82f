use Rattle.sfv.specs.Types.{item_field, list_field, dictionary_field}
use Rattle.sfv_signatures.proofs.Dispatch.{of_kind}
use Rattle.sfv_signatures.proofs.fields.append_strict.Goals as goal

pub returns-in-Item : goal.returns-in-Item
returns-in-Item c = of_kind c.args.kind item_field c.args.text.now c.args.base.now
    c.append_canonical.new.base c.append_canonical.result c.in-Item.is c.append_canonical.ensures

pub returns-in-List : goal.returns-in-List
returns-in-List c = of_kind c.args.kind list_field c.args.text.now c.args.base.now c.append_canonical-in-List.new.base
    c.append_canonical-in-List.result c.in-List.is c.append_canonical-in-List.ensures

pub returns-in-Dictionary : goal.returns-in-Dictionary
returns-in-Dictionary c = of_kind c.args.kind dictionary_field c.args.text.now c.args.base.now
    c.append_canonical-in-Dictionary.new.base c.append_canonical-in-Dictionary.result c.in-Dictionary.is
    c.append_canonical-in-Dictionary.ensures
