use Rattle.std.proofs.Common.{[], ◌∷◌, codes, string_bytes}
use Rattle.sfv.specs.{Canonical.inner_list_text, Trees.inner_list_tree, Types.{list_field, Rfc9651}, Values.inner_list}
use Rattle.sfv.proofs.Callers.{read_is_value}
use Rattle.sfv_signatures.proofs.Named.{two_parts}
use Rattle.sfv_signatures.proofs.base.append_params.Goals as goal

pub returns-clause-text : goal.returns-clause-text
returns-clause-text c = two_parts (string_bytes c.args.base.now) (string_bytes c.push_str.new.self)
    (string_bytes c.append_list.new.base) (codes "\"@signature-params\": ")
    (inner_list_text (inner_list_tree c.args.list.now)) c.in_ok-push_str.ensures.bytes c.in_ok-append_list.ensures.text

pub returns-clause-value : goal.returns-clause-value
returns-clause-value c = read_is_value Rfc9651 list_field (inner_list_text (inner_list_tree c.args.list.now))
    (inner_list (inner_list_tree c.args.list.now) ∷ []) c.in_ok-append_list.ensures.read_back
