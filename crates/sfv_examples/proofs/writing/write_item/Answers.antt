use Rattle.std.proofs.Common.{refl}
use Rattle.sfv.specs.{BareItems.ref_value, CheckedTexts.text_of as key_text, Types.{item_field, Rfc9651}}
use Rattle.sfv.{specs.Values.bare_values, proofs.Callers.{value_read_back, all_fit_newer, ordered_same}}
use Rattle.sfv_examples.specs.Uses.{item_of_one}
use Rattle.sfv_examples.proofs.writing.write_item.Goals as goal

pub returns-clause-read_back : goal.returns-clause-read_back
returns-clause-read_back c =
    let item = item_of_one (ref_value c.args.value) (key_text c.args.key) (ref_value c.args.param) in
    let param = c.in_ok-text.ensures.is_value in
    value_read_back Rfc9651 item_field item (record {
      parts = (c.bare_item.ensures.is_value, ((c.parameter.ensures.is_key, param), tt));
      distinct = ordered_same item_field item refl;
    }) (all_fit_newer (bare_values item_field item))
