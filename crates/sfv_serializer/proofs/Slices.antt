-- Checks of the values of each element of a slice, one by one.
use Rattle.std.proofs.Common.{◌≡◌, ◌∙◌, ◌<◌, ◌+◌, ◌∷◌, ℕ, List, length, map, ap, sym, subst, get_or, take, flat_map}
use Rattle.std.proofs.lemmas.List.{map-append}
use Rattle.sfv_spec.specs.{Values.{BareValue, AllFit}, declared.version.Version.Version}
use Rattle.sfv_writer.specs.{Versions.NamesFirstUnfit, declared.serialize_error.SerializeError.SerializeError}
use Rattle.sfv_writer.proofs.{Checks.{each_more, each_stops, split_at}, Separated.mapped_more}

module _ {A B : Type 0} (version : Version) (tree : A → B) (values : B → List BareValue) where
  -- the version has the values of one more element
  pub slice_more : (xs : List A) (n : ℕ) (x : A) → n < length xs → x ≡ get_or xs n x
      → AllFit version (flat_map values (map tree (take n xs))) → AllFit version (values (tree x))
      → AllFit version (flat_map values (map tree (take (n + 1) xs)))
  slice_more xs n x lt is h k = subst (λ l. AllFit version (flat_map values l))
      (sym (mapped_more tree xs n x lt is)) (each_more version values (map tree (take n xs)) (tree x) h k)

  -- the version lacks a value of this element
  pub slice_stops : (xs : List A) (n : ℕ) (x : A) (e : SerializeError) → n < length xs → x ≡ get_or xs n x
      → AllFit version (flat_map values (map tree (take n xs))) → NamesFirstUnfit version (values (tree x)) e
      → NamesFirstUnfit version (flat_map values (map tree xs)) e
  slice_stops xs n x e lt is h k =
      let p = split_at xs n x lt is in
      subst (λ l. NamesFirstUnfit version (flat_map values l) e) (sym (map-append tree (take n xs) (x ∷ p.0))
      ∙ ap (map tree) (sym p.1)) (each_stops version values (map tree (take n xs)) (tree x) (map tree p.0) e h k)
