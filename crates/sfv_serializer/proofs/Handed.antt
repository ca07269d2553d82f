-- The values that calls hand over.
use Rattle.std.proofs.Common.{Bool, true, false, ◌≡◌, ℕ, ◌<◌, List, [], ◌∷◌, length, map, sym, ap, ◌∙◌, Result, arith}
use Rattle.std.proofs.{Common.flat_map, lemmas.List.Folds.flat_map-map}
use Rattle.sfv_spec.specs.Values.{BareValue, RawParameters, bare_values, AllFit, item_values, member_values}
use Rattle.sfv_spec.specs.declared.field_kind.FieldKind.TheVariants.{List as list_field, Dictionary as dictionary_field}
use Rattle.sfv_spec.{specs.declared.version.Version.Version, proofs.Fields.fit_append, proofs.Marks.parameter_values}
use Rattle.sfv_values.specs.KeyText.{KeyRef}
use Rattle.sfv_writer.specs.Versions.{NamesFirstUnfit, ChecksVersion}
use Rattle.sfv_writer.specs.declared.serialize_error.SerializeError.{SerializeError}
use Rattle.sfv_writer.proofs.Checks.{names_front, looks_after, not_of_none, singles}
use Rattle.sfv_serializer.specs.ScriptSteps.{supplied_member, inner_list_calls, list_calls, dictionary_calls}
use Rattle.sfv_serializer.specs.Scripts.{param_of_call, item_of_calls, member_of_calls, entry_of_calls}
use Rattle.sfv_serializer.specs.declared.script.{ItemCalls.ItemCalls, MemberCalls.MemberCalls, ParamCall.ParamCall}
use Rattle.sfv_serializer.proofs.Described.{supplied_list_is, supplied_dictionary_is}

-- calls of which a value doesn't fit are not none
pub named_list : (version : Version) (calls : List MemberCalls) (e : SerializeError)
    → NamesFirstUnfit version (bare_values list_field (map member_of_calls calls)) e → 0 < length calls
named_list version [] e h = absurd (not_of_none version h.0 h.1)
named_list version (c ∷ cs) e h = omega arith

pub named_dictionary : (version : Version) (calls : List (KeyRef × MemberCalls)) (e : SerializeError)
    → NamesFirstUnfit version (bare_values dictionary_field (map entry_of_calls calls)) e → 0 < length calls
named_dictionary version [] e h = absurd (not_of_none version h.0 h.1)
named_dictionary version (c ∷ cs) e h = omega arith

-- the value of one parameter, and those of all
abbrev pub values_of_param : List ℕ × BareValue → List BareValue
values_of_param p = p.1 ∷ []

pub params_values : (ps : RawParameters) → flat_map values_of_param ps ≡ parameter_values ps
params_values ps = singles (λ p. p.1) ps

module _ (version : Version) (items : List ItemCalls) (params : List ParamCall) where
  -- of an inner list, which is abandoned or not, an item has a value that doesn't fit
  pub inner_names : (abandon : Bool) (e : SerializeError)
      → NamesFirstUnfit version (flat_map item_values (map item_of_calls items)) e
      → NamesFirstUnfit version (member_values (supplied_member (inner_list_calls items params abandon))) e
  inner_names true e h = names_front version (flat_map item_values (map item_of_calls items)) [] e h
  inner_names false e h = names_front version (flat_map item_values (map item_of_calls items))
      (parameter_values (map param_of_call params)) e h

  -- if it is abandoned, its items are all
  pub abandoned_fit : AllFit version (flat_map item_values (map item_of_calls items))
      → AllFit version (member_values (supplied_member (inner_list_calls items params true)))
  abandoned_fit h = fit_append version (flat_map item_values (map item_of_calls items)) [] h tt

  -- and else its parameters stand after them
  pub ended_looks : {T : Type 0} (r : Result T SerializeError)
      → AllFit version (flat_map item_values (map item_of_calls items))
      → ChecksVersion version (parameter_values (map param_of_call params)) r
      → ChecksVersion version (member_values (supplied_member (inner_list_calls items params false))) r
  ended_looks r h k = looks_after _ _ _ _ h k

-- the values of the members that are handed over, one after another
pub list_supplied : (members : List MemberCalls) → flat_map (λ m. member_values (supplied_member m))
    (list_calls members) ≡ bare_values list_field (map member_of_calls members)
list_supplied members = sym (flat_map-map member_values supplied_member (list_calls members))
    ∙ ap (bare_values list_field) (supplied_list_is members)

pub dictionary_supplied : (members : List (KeyRef × MemberCalls)) → flat_map (λ m. member_values (supplied_member m.1))
    (dictionary_calls members) ≡ bare_values dictionary_field (map entry_of_calls members)
dictionary_supplied members = sym (flat_map-map (λ m. member_values m.1) (λ c. (c.0, supplied_member c.1))
    (dictionary_calls members)) ∙ ap (bare_values dictionary_field) (supplied_dictionary_is members)
