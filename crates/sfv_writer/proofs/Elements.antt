-- What a call took from an iterator before it failed.
use Rattle.std.proofs.Common.{◌≡◌, ◌<◌, ℕ, Bool, true, false, List, [], ◌∷◌, ◌++◌, length, refl, sym, ap, subst, ◌∙◌}
use Rattle.std.proofs.Common.{arith, inl, string_bytes, Result, Ok, Err, Option, IfErr, OnOk, flat_map, Bor}
use Rattle.std.specs.{Iterator.Drains, List.AllByRecursion, declared.string.String.String}
use Rattle.indexmap.proofs.MapLemmas.{OnOk-map}
use Rattle.sfv_spec.specs.{Canonical.parameters_text, Values.{AreParameters, AllFit}}
use Rattle.sfv_spec.specs.declared.version.Version.{Version, TheVariants.Rfc9651}
use Rattle.sfv_values.specs.BareItems.{bare_value}
use Rattle.sfv_tree.specs.Trees.{OwnedBareItem}
use Rattle.sfv_writer.specs.Pairs.{lent_pairs, pair_values}
use Rattle.sfv_writer.specs.Versions.{PartKind, parts_text, StopsEarly, FailsAmong, LacksAmong, IsSerializeError}
use Rattle.sfv_writer.specs.Versions.{AppendsParameters, parameter_pairs}
use Rattle.sfv_writer.specs.{Written.LacksRoom, declared.serialize_error.SerializeError.SerializeError}
use Rattle.sfv_writer.proofs.Checks.{newer_fails, singles}
use Rattle.sfv_writer.specs.declared.serialize_error.SerializeError.TheVariants as errors

module _ {A S Z : Type 0} (kind : PartKind A) (separator : List ℕ) (version : Version)
    (gives : S → Option A → S → Type 0) (from : S) (old : String Z) (is_first : Bool) where
  -- there is always room for no text
  lacks_some : (taken : List A) → LacksRoom old (parts_text kind separator is_first taken) → 0 < length taken
  lacks_some [] h = absurd (omega (arith, old.bytes.ok.1, h))
  lacks_some (x ∷ xs) h = omega arith

  -- an error for values, and for room, is an error for the same parts
  pub stops_at : (e : SerializeError) → FailsAmong gives from (flat_map kind.values) version e
      → LacksAmong gives from (flat_map kind.values) version old (parts_text kind separator is_first) e
      → StopsEarly kind version gives from separator old is_first e
  stops_at (errors.Unsupported b) f l = record {
    taken = f.0;
    rest = f.1;
    yielded = f.2;
    some = f.3;
    cause = f.4;
    room = λ is. absurd (let no = is in cc);
  }
  stops_at errors.OutOfMemory f l = let p = l refl in record {
    taken = p.0;
    rest = p.1;
    yielded = p.2;
    some = lacks_some p.0 p.4;
    cause = inl (refl, p.3);
    room = λ _. p.4;
  }

-- RFC 9651 has every value
pub newer_stops : {A S Z : Type 0} (kind : PartKind A) (separator : List ℕ) (gives : S → Option A → S → Type 0) (from : S)
    (old : String Z) (is_first : Bool) (e : SerializeError) → StopsEarly kind Rfc9651 gives from separator old is_first e
    → e ≡ errors.OutOfMemory
newer_stops kind separator gives from old is_first e h =
    newer_fails gives from (flat_map kind.values) e (h.taken, h.rest, h.yielded, h.some, h.cause)

-- ---- parameters, as pairs and as parts

values_as : (pairs : List (Bor (List ℕ) × Bor OwnedBareItem)) → flat_map parameter_pairs.values pairs ≡ pair_values pairs
values_as pairs = singles (λ p. bare_value p.1.now) pairs

pub text_as : (is_first : Bool) (pairs : List (Bor (List ℕ) × Bor OwnedBareItem))
    → parts_text parameter_pairs [] is_first pairs ≡ parameters_text (lent_pairs pairs)
text_as is_first [] = refl
text_as true (p ∷ ps) = ap (λ (t : List ℕ). parameter_pairs.text p ++ t) (text_as false ps)
text_as false (p ∷ ps) = ap (λ (t : List ℕ). parameter_pairs.text p ++ t) (text_as false ps)

valid_as : (pairs : List (Bor (List ℕ) × Bor OwnedBareItem)) → AreParameters (lent_pairs pairs)
    → AllByRecursion parameter_pairs.is_valid pairs
valid_as [] h = tt
valid_as (p ∷ ps) h = (h.0, valid_as ps h.1)

-- and the other way round
pub as_valid : (pairs : List (Bor (List ℕ) × Bor OwnedBareItem)) → AllByRecursion parameter_pairs.is_valid pairs
    → AreParameters (lent_pairs pairs)
as_valid [] h = tt
as_valid (p ∷ ps) h = (h.0, as_valid ps h.1)

module _ {S Z T : Type 0} (version : Version) (gives : S → Option (Bor (List ℕ) × Bor OwnedBareItem) → S → Type 0)
    (from : S) (old new : String Z) (r : Result T SerializeError) where
  pub params_appended : OnOk r ((pairs : List (Bor (List ℕ) × Bor OwnedBareItem)) × Drains gives from pairs
      × (string_bytes new ≡ string_bytes old ++ parameters_text (lent_pairs pairs))
      × AreParameters (lent_pairs pairs) × AllFit version (pair_values pairs))
      → OnOk r (AppendsParameters version gives from old new)
  params_appended h = OnOk-map r _ _ (λ k. record {
    taken = k.0;
    drained = k.1;
    written = k.2 ∙ ap (λ (t : List ℕ). string_bytes old ++ t) (sym (text_as true k.0));
    valid = valid_as k.0 k.3;
    supported = subst (AllFit version) (sym (values_as k.0)) k.4;
  }) h

  pub params_stop : IfErr r (FailsAmong gives from pair_values version)
      → IfErr r (LacksAmong gives from pair_values version old (λ pairs. parameters_text (lent_pairs pairs)))
      → IfErr r (StopsEarly parameter_pairs version gives from [] old true)
  params_stop f l = on r f l
    where
      on : (r : Result T SerializeError) → IfErr r (FailsAmong gives from pair_values version)
          → IfErr r (LacksAmong gives from pair_values version old (λ pairs. parameters_text (lent_pairs pairs)))
          → IfErr r (StopsEarly parameter_pairs version gives from [] old true)
      on (Ok x) f l = tt
      on (Err e) f l = stops_at parameter_pairs [] version gives from old true e
          (f.0, f.1, f.2, f.3, subst (λ bs. IsSerializeError version bs e) (sym (values_as f.0)) f.4)
          (λ is. let p = l is in (
            p.0,
            p.1,
            p.2,
            subst (AllFit version) (sym (values_as p.0)) p.3,
            subst (λ (t : List ℕ). LacksRoom old t) (sym (text_as true p.0)) p.4,
          ))
