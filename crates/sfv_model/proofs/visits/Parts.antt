-- What a reading hands out, by its parts: the steps of the code's proofs for visitors.
use Rattle.std.proofs.Common.{◌≡◌, ℕ, List, [], ◌++◌, Ok, Err, refl, sym, ap, ◌∙◌, append_assoc, append-nil}
use Rattle.std.specs.List.{FoldsTo}
use Rattle.sfv_spec.specs.Events.{TreeEvent}
use Rattle.sfv_model.specs.Reader.{Answer, Reader, and_then, ◌>>=◌, bind, led_answer, led, visited}
use Rattle.sfv_model.specs.Visits.{VisitorFails}

led_visited : {B : Type 0} (ds : List TreeEvent) (parts : B → List TreeEvent) (more : B → List TreeEvent) (a : Answer B)
    → ((w : B) (q : List ℕ) → a ≡ Ok (w, q) → parts w ≡ ds ++ more w)
    → visited parts (led_answer ds a) ≡ ds ++ visited more a
led_visited ds parts more (Ok x) h = h x.0 x.1 refl
led_visited ds parts more (Err e) h = refl

-- the second part of a reading: what the first hands out, and then what the second does
pub visited_then : {A B : Type 0} (f : Reader A) (g : A → Reader B) (first : A → List TreeEvent) (parts more : B
    → List TreeEvent) (t q : List ℕ) (v : A) → f t ≡ Ok (v, q)
    → ((w : B) (r : List ℕ) → g v q ≡ Ok (w, r) → parts w ≡ first v ++ more w)
    → visited parts ((f >>= λ v. led (first v) (g v)) t) ≡ first v ++ visited more (g v q)
unfolding bind led
visited_then {B = B} f g first parts more t q v e h = simp (e, led_visited (first v) parts more (g v q) h)

-- the first part of a reading: what is visited goes on
pub visited_first : {A B : Type 0} (f : Reader A) (g : A → Reader B) (first : A → List TreeEvent) (parts more : B
    → List TreeEvent) (t : List ℕ) → ((v : A) (q : List ℕ) (w : B) (r : List ℕ) → f t ≡ Ok (v, q) → g v q ≡ Ok (w, r)
    → parts w ≡ first v ++ more w)
    → (rest : List TreeEvent) × (visited parts ((f >>= λ v. led (first v) (g v)) t) ≡ visited first (f t) ++ rest)
unfolding bind led
visited_first {A} {B} f g first parts more t h = on (f t) refl
  where
    on : (a : Answer A) → f t ≡ a → (rest : List TreeEvent)
        × (visited parts (and_then a (λ v t. led_answer (first v) (g v t))) ≡ visited first a ++ rest)
    on (Ok x) e = (
      visited more (g x.0 x.1),
      led_visited (first x.0) parts more (g x.0 x.1)
          (λ w r i. h x.0 x.1 w r e i),
    )
    on (Err e) i = ([], sym (append-nil e.events))

-- a failure within a part is one of the whole
pub failed_within : {A B S F : Type 0} (takes : S → TreeEvent → S → Type 0)
    (fails : S → TreeEvent → F → Type 0) (parts : A → List TreeEvent) (a : Answer A) (whole : B → List TreeEvent)
    (b : Answer B) (front rest : List TreeEvent) → visited whole b ≡ front ++ (visited parts a ++ rest)
    → (from middle : S) (fault : F) → FoldsTo takes from front middle
    → ((es : List TreeEvent) (to : S) → FoldsTo takes middle es to → FoldsTo takes from (front ++ es) to)
    → VisitorFails takes fails parts a middle fault → VisitorFails takes fails whole b from fault
failed_within takes fails parts a whole b front rest e from middle fault run runs r = record {
  before = front ++ r.before;
  e = r.e;
  after = r.after ++ rest;
  s = r.s;
  all = e ∙ ap (λ (l : List TreeEvent). front ++ (l ++ rest)) r.all ∙ simp append_assoc;
  taken = runs r.before r.s r.taken;
  failed = r.failed;
}
