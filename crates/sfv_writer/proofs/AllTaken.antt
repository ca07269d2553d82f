-- All parts that an iterator over a slice or a map gives are written.
use Rattle.std.proofs.Common.{◌≤◌, ℕ, true, List, [], ◌∷◌, ◌++◌, map, string_bytes, string_capacity, sym, ap, subst}
use Rattle.std.proofs.Common.{◌∙◌, Result, Ok, Err, Option, OnOk, OnErr}
use Rattle.std.{specs.List.AllByRecursion, specs.declared.string.String.String, proofs.lemmas.Simd.map-map}
use Rattle.sfv_spec.specs.{Texts.joined, Values.BareValue}
use Rattle.sfv_writer.specs.{Versions.{AppendsParts, LacksForParts, parts_by}, Written.{Appends, AsksForRoom, Extends}}
use Rattle.sfv_writer.proofs.{Lent.GivesAll, RoomOfIterators.front_lacks, Separated.in_a_row_first}

-- what holds of what each lends holds of all that is lent
lent_each : {A B : Type 0} (lent : A → B) (P : B → Type 0) (xs : List A) → AllByRecursion (λ x. P (lent x)) xs
    → AllByRecursion P (map lent xs)
lent_each lent P [] h = tt
lent_each lent P (x ∷ xs) h = (h.0, lent_each lent P xs h.1)

-- the text, the room and the parts of the whole
pub whole_written : {Z T E A B S : Type 0} (gives : S → Option A → S → Type 0) (from : S) (lent : A → B)
    (text_of : B → List ℕ) (values : B → List BareValue) (IsGood : B → Type 0) (s : List ℕ) (ys : List B)
    (old new : String Z) (r : Result T E) → GivesAll gives from lent ys
    → OnOk r (AppendsParts (parts_by lent text_of values IsGood) gives from s true old new)
    → OnErr r (LacksForParts (parts_by lent text_of values IsGood) gives from s true old)
    → string_capacity old ≤ string_capacity new → OnErr r (Extends (string_bytes old) (string_bytes new))
    → Appends old new (joined s (map text_of ys)) r × AsksForRoom old new (joined s (map text_of ys)) r
    × OnOk r (AllByRecursion IsGood ys)
whole_written gives from lent text_of values IsGood s ys old new (Ok v) whole w l c k =
    let is = whole.all w.0 w.1 in (
      w.3 ∙ ap (λ (t : List ℕ). string_bytes old ++ t) (in_a_row_first s (map (λ x. text_of (lent x)) w.0)
          ∙ ap (joined s) (sym (map-map text_of lent w.0) ∙ ap (map text_of) is)),
      (c, tt),
      subst (AllByRecursion IsGood) is (lent_each lent IsGood w.0 w.2),
    )
whole_written gives from lent text_of values IsGood s ys old new (Err e) whole w l c k =
    let more = whole.front l.0 l.1 l.2 in (k, (c, front_lacks lent text_of s old l.0 ys more.0 more.1 l.3), tt)
