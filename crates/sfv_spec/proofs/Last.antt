-- The last pair of a key, for callers: in a text, in what was read of it, and split off.
use Rattle.std.proofs.Common.{◌≡◌, ℕ, List, [], ◌∷◌, ◌++◌, map, refl, ap, ◌∙◌, Bool, true, false, cond, ◌||◌, inl, inr}
use Rattle.std.proofs.Common.{bytes_eq, not, Option, Some, None, option_map}
use Rattle.std.specs.{List.list_any, Map.lookup, Option.option_or}
use Rattle.std.proofs.lemmas.{Bool.{and_parts, not-true, cases_Bool}, Option.same_Some, Slice.Eq.bytes_eq-Decides}
use Rattle.sfv_spec.specs.Ordered.{last_of, ordered, ordered_member}
use Rattle.sfv_spec.specs.{Values.RawMember, declared.field_kind.FieldKind.TheVariants.Dictionary as dictionary_field}
use Rattle.sfv_spec.proofs.{Collapse.{last_of-absent, last_of-collapse, or_none}, Marks.keys, Repeats.no_repeats}

-- the value of each pair by a function
abbrev pub over : {A B : Type 0} → (A → B) → List (List ℕ × A) → List (List ℕ × B)
over f ps = map (λ p. (p.0, f p.1)) ps

pub last_of-over : {A B : Type 0} (f : A → B) (key : List ℕ) (ps : List (List ℕ × A))
    → last_of key (over f ps) ≡ option_map f (last_of key ps)
unfolding last_of
last_of-over f key [] = refl
last_of-over {A} f key ((k, v) ∷ ps) = rw (last_of-over f key ps) (go (last_of key ps) (bytes_eq key k))
  where
    go : (o : Option A) (b : Bool) → option_or (option_map f o) (cond b (Some (f v)) None)
        ≡ option_map f (option_or o (cond b (Some v) None))
    go None true = refl
    go None false = refl
    go (Some x) b = refl

-- a dictionary that was read has under each key the last member of the text, its parameters ordered
pub last_of-ordered : (key : List ℕ) (raw : List (List ℕ × RawMember))
    → last_of key (ordered dictionary_field raw) ≡ option_map ordered_member (last_of key raw)
last_of-ordered key raw = last_of-over _ _ _ ∙ ap (option_map ordered_member) (last_of-collapse _ _)

-- a key has no pair
pub none-last_of : {A : Type 0} (key : List ℕ) (ps : List (List ℕ × A)) → last_of key ps ≡ None
    → list_any (bytes_eq key) (keys ps) ≡ false
unfolding last_of
none-last_of key [] h = refl
none-last_of {A} key ((k, v) ∷ ps) h = go (last_of key ps) (bytes_eq key k) (none-last_of key ps) h
  where
    go : (o : Option A) (b : Bool) → (o ≡ None → list_any (bytes_eq key) (keys ps) ≡ false)
        → option_or o (cond b (Some v) None) ≡ None → (b || list_any (bytes_eq key) (keys ps)) ≡ false
    go None false ih h = ih refl
    go None true ih h = absurd (cc)
    go (Some x) b ih h = absurd (cc)

-- the pairs split at one of this key and value, and none after it has the key
pub record IsLast {A : Type 0} (key : List ℕ) (v : A) (ps : List (List ℕ × A)) : Type 0 where
  pub before : List (List ℕ × A)
  pub after : List (List ℕ × A)
  pub split : ps ≡ before ++ (key, v) ∷ after
  pub last : last_of key after ≡ None

-- a key has a last value exactly if the pairs split so
pub last_of-split : {A : Type 0} (key : List ℕ) (v : A) (ps : List (List ℕ × A)) → last_of key ps ≡ Some v
    → IsLast key v ps
unfolding last_of
last_of-split key v [] h = absurd (cc)
last_of-split {A} key v ((k, w) ∷ ps) h = go (last_of-split key v ps) (bytes_eq key k) refl (last_of key ps) refl h
  where
    go : (last_of key ps ≡ Some v → IsLast key v ps) → (b : Bool) → bytes_eq key k ≡ b → (o : Option A)
        → last_of key ps ≡ o → option_or o (cond b (Some w) None) ≡ Some v → IsLast key v ((k, w) ∷ ps)
    go ih b e (Some x) f h =
        let l = ih (f ∙ h) in
        record {
          before = (k, w) ∷ l.before;
          after = l.after;
          split = ap (λ (qs : List (List ℕ × A)). (k, w) ∷ qs) l.split;
          last = l.last;
        }
    go ih true e None f h = record {
      before = [];
      after = ps;
      split = rw ((bytes_eq-Decides key k).0 e, same_Some w v h) refl;
      last = f;
    }
    go ih false e None f h = absurd (cc)

last_of-past : {A : Type 0} (key : List ℕ) (v : A) (before after : List (List ℕ × A)) → last_of key after ≡ None
    → last_of key (before ++ (key, v) ∷ after) ≡ Some v
unfolding last_of
last_of-past key v [] after h = rw (h, (bytes_eq-Decides key key).1 refl) refl
last_of-past key v ((k, w) ∷ before) after h = rw (last_of-past key v before after h) refl

pub split-last_of : {A : Type 0} (key : List ℕ) (v : A) (ps : List (List ℕ × A)) → IsLast key v ps
    → last_of key ps ≡ Some v
split-last_of key v ps l = ap (last_of key) l.split ∙ last_of-past key v l.before l.after l.last

-- where no key stands twice, the last pair of a key is its first
pub lookup-last_of : {A : Type 0} (key : List ℕ) (ps : List (List ℕ × A)) → no_repeats (keys ps) ≡ true
    → lookup (bytes_eq key) ps ≡ last_of key ps
unfolding last_of
lookup-last_of key [] h = refl
lookup-last_of key ((k, v) ∷ ps) h =
    let p = and_parts (not (list_any (bytes_eq k) (keys ps))) (no_repeats (keys ps)) h in
    let absent = last_of-absent k ps (not-true (list_any (bytes_eq k) (keys ps)) p.0) in
    let rest = lookup-last_of key ps p.1 in
    elim (cases_Bool (bytes_eq key k)) [
      | inl e ↦ let here = rw (← (bytes_eq-Decides key k).0 e) at absent in rw (e, here) refl
      | inr e ↦ rw (e, rest) (or_none (last_of key ps))
    ]
