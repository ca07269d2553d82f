-- Parameters that are written one after another: as values, and as they are lent.
use Rattle.std.proofs.Common.{◌≡◌, ℕ, List, [], ◌∷◌, ◌++◌, length, refl, sym, ap, subst, ◌∙◌, append_assoc, arith}
use Rattle.std.proofs.Common.{IsTrue, Result, Ok, Err, OnOk, Bor, append-nil}
use Rattle.sfv_spec.specs.{Canonical.parameters_text, Classes.is_key, Statements.IsValue}
use Rattle.sfv_spec.specs.Values.{BareValue, RawParameters, RawItem, IsBareValue, AreParameters, AllFit}
use Rattle.sfv_spec.specs.declared.{field_kind.FieldKind.TheVariants.Item as item_field, version.Version.Version}
use Rattle.sfv_spec.proofs.{Distinct.item_own, Marks.keys, Repeats.no_repeats}
use Rattle.sfv_values.specs.BareItems.{bare_value}
use Rattle.sfv_tree.specs.Trees.{OwnedBareItem, pairs_tree}
use Rattle.sfv_writer.{specs.Pairs.{lent_pairs, pair_values}, specs.Written.param_text, proofs.Appended.next}

-- the text of one more, after those of all before
pub parameters_push : (ps : RawParameters) (p : List ℕ × BareValue)
    → parameters_text (ps ++ p ∷ []) ≡ parameters_text ps ++ param_text p.0 p.1
parameters_push [] p = append-nil (param_text p.0 p.1)
parameters_push (q ∷ ps) p =
    let first : List ℕ = param_text q.0 q.1 in
    ap (λ (t : List ℕ). first ++ t) (parameters_push ps p)
    ∙ sym (append_assoc first (parameters_text ps) (param_text p.0 p.1))

-- and all are parameters
pub valid_push : (ps : RawParameters) (p : List ℕ × BareValue) → AreParameters ps → IsTrue (is_key p.0) → IsBareValue p.1
    → AreParameters (ps ++ p ∷ [])
valid_push [] p h key value = ((key, value), tt)
valid_push (q ∷ ps) p h key value = (h.0, valid_push ps p h.1 key value)

module _ (k : Bor (List ℕ)) (v : Bor OwnedBareItem) where
  pub lent_push : (ps : List (Bor (List ℕ) × Bor OwnedBareItem))
      → lent_pairs (ps ++ (k, v) ∷ []) ≡ lent_pairs ps ++ (k.now, bare_value v.now) ∷ []
  lent_push [] = refl
  lent_push (p ∷ ps) = ap (λ (rest : RawParameters). (p.0.now, bare_value p.1.now) ∷ rest) (lent_push ps)

  -- one more is written
  pub text_more : (old output new : List ℕ) (ps : List (Bor (List ℕ) × Bor OwnedBareItem))
      → output ≡ old ++ parameters_text (lent_pairs ps) → new ≡ output ++ param_text k.now (bare_value v.now)
      → new ≡ old ++ parameters_text (lent_pairs (ps ++ (k, v) ∷ []))
  text_more old output new ps e n =
      let so_far : RawParameters = lent_pairs ps in
      next _ _ _ _ _ e n ∙ ap (λ (t : List ℕ). old ++ t) (sym (ap parameters_text (lent_push _) ∙ parameters_push _ _))

  -- and is a parameter
  pub valid_more : (ps : List (Bor (List ℕ) × Bor OwnedBareItem)) → AreParameters (lent_pairs ps)
      → IsTrue (is_key k.now) → IsBareValue (bare_value v.now) → AreParameters (lent_pairs (ps ++ (k, v) ∷ []))
  valid_more ps h key value = subst AreParameters (sym (lent_push _)) (valid_push _ _ h key value)

  -- whose value fits
  pub fit_more : (version : Version) (ps : List (Bor (List ℕ) × Bor OwnedBareItem)) → AllFit version (pair_values ps)
      → AllFit version (bare_value v.now ∷ []) → AllFit version (pair_values (ps ++ (k, v) ∷ []))
  fit_more version [] h fit = fit
  fit_more version (p ∷ ps) h fit = (h.0, fit_more version ps h.1 fit)

-- without parameters nothing is written
pub none_written : (old : List ℕ) (es : List (List ℕ × OwnedBareItem)) → length es ≡ 0
    → old ≡ old ++ parameters_text (pairs_tree es)
none_written old [] e = sym (append-nil old)
none_written old (p ∷ es) e = absurd (omega (arith, e))

pub none_valid : (es : List (List ℕ × OwnedBareItem)) → length es ≡ 0 → AreParameters (pairs_tree es)
none_valid [] e = tt
none_valid (p ∷ es) e = absurd (omega (arith, e))

pub none_repeated : (es : List (List ℕ × OwnedBareItem)) → length es ≡ 0 → IsTrue (no_repeats (keys (pairs_tree es)))
none_repeated [] e = refl
none_repeated (p ∷ es) e = absurd (omega (arith, e))

-- an item is a value if its bare item is, and its parameters are
pub item_on_ok : {T E : Type 0} (i : RawItem) (r : Result T E) → IsBareValue i.bare → OnOk r (AreParameters i.parameters)
    → OnOk r (IsTrue (no_repeats (keys i.parameters))) → OnOk r (IsValue item_field i)
item_on_ok i (Ok x) bare h distinct = record { parts = (bare, h); distinct = item_own i distinct }
item_on_ok i (Err e) bare h distinct = tt
