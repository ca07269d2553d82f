-- Values with separators: the events of complete values, and the first events of the next one.
use Rattle.std.proofs.Common.{◌≡◌, ℕ, List, [], ◌∷◌, ◌++◌, Option, Some, Ok, Err, refl, sym, ap, subst, ◌∙◌}
use Rattle.std.proofs.Common.{append_assoc, append-nil, flat_map}
use Rattle.sfv_spec.specs.{Events.TreeEvent, Texts.{◌⨾◌, IsJoining, IsSeparated}}
use Rattle.sfv_spec.proofs.Settled.{joining-nil, joining-cons}
use Rattle.sfv_model.specs.Reader.{Answer, Reader, Apart, visited, and_then, give, ◌>>=◌, bind, led, led_answer, many}
use Rattle.sfv_model.{specs.Reader.{go_on, one_and_more}, proofs.complete.Combinators.bind_complete}
use Rattle.sfv_model.proofs.{complete.Items.lengthens_item, sound.Combinators.{Begins, begins_after}}
use Rattle.sfv_model.proofs.{sound.Many.{Consumes, many_is}, texts.Joining.{joining_none, joining_into, in_turn}}

pub put_events : {A : Type 0} (parts : A → List TreeEvent) (m : A) (a : Answer (List A))
    → visited (λ ms. flat_map parts ms) (led_answer (parts m) (and_then a (λ vs. give (m ∷ vs))))
    ≡ parts m ++ visited (λ ms. flat_map parts ms) a
unfolding give
put_events parts m (Ok x) = refl
put_events parts m (Err e) = refl

-- texts of P with separators of S; before a text of F, `next` reads a separator and continues as `one`
module _ {A : Type 0} (P : A → List ℕ → Type 0) (S F : List ℕ → Type 0) (parts : A → List TreeEvent) (one : Reader A)
    (next : Reader (Option A)) (takes : Consumes next) (again : (m : A) (t q : List ℕ) → P m t
    → Apart lengthens_item q → one (t ++ q) ≡ Ok (m, q)) (fresh : (m : A) (t q : List ℕ) → P m t → F (t ++ q))
    (parted : (c y : List ℕ) → S c → Apart lengthens_item (c ++ y)) (next_is : (c y : List ℕ) → S c → F y
    → next (c ++ y) ≡ (one >>= λ m. give (Some m)) y) where
  abbrev All : List A → List TreeEvent
  All ms = flat_map parts ms

  abbrev More : Reader (List A)
  More = many parts next

  abbrev Members : Reader (List A)
  Members = one_and_more parts one next

  another : (a : Answer A) → and_then (and_then a (λ m. give (Some m)))
      (go_on parts More) ≡ and_then a (λ v. led (parts v) (More >>= λ vs. give (v ∷ vs)))
  unfolding give
  another (Ok x) = refl
  another (Err e) = refl

  -- after a separator, the values continue as they begin
  after_separator : (c y : List ℕ) → S c → F y → More (c ++ y) ≡ Members y
  unfolding bind
  after_separator c y h f = many_is _ _ takes _ ∙ ap (λ a. and_then a (go_on parts More)) (next_is c y h f) ∙ another _

  read_first : (m : A) (t q : List ℕ) → P m t → Apart lengthens_item q
      → Members (t ++ q) ≡ led (parts m) (More >>= λ vs. give (m ∷ vs)) q
  read_first m t q h f = bind_complete _ _ _ _ _ (again m t q h f)

  events_first : (m : A) (t q : List ℕ) → P m t → Apart lengthens_item q
      → visited All (Members (t ++ q)) ≡ parts m ++ visited All (More q)
  unfolding bind led
  events_first m t q h f = ap (visited All) (read_first m t q h f) ∙ put_events parts m (More q)

  -- values with a separator after each
  abbrev Each : List A → List ℕ → Type 0
  Each ms = IsJoining (λ m. P m ⨾ S) ms

  pub fresh_after : (ms : List A) (u rest : List ℕ) → Each ms u → F rest → F (u ++ rest)
  fresh_after [] u rest h f = subst (λ (l : List ℕ). F (l ++ rest)) (sym (joining-nil h)) f
  fresh_after (m ∷ ms) u rest h f =
      let j = joining-cons h in
      let all : u ++ rest ≡ j.first.front ++ (j.first.back ++ (j.back ++ rest)) =
      ap (λ (l : List ℕ). l ++ rest) (j.text ∙ ap (λ (l : List ℕ). l ++ j.back) j.first.text) ∙ simp append_assoc in
      subst F (sym all) (fresh m j.first.front (j.first.back ++ (j.back ++ rest)) j.first.first)

  after_each : (ms : List A) (u rest : List ℕ) → Each ms u → F rest
      → visited All (Members (u ++ rest)) ≡ All ms ++ visited All (Members rest)
  after_each [] u rest h f = ap (λ (l : List ℕ). visited All (Members (l ++ rest))) (joining-nil h)
  after_each (m ∷ ms) u rest h f =
      let j = joining-cons h in
      let y : List ℕ = j.back ++ rest in
      let all : u ++ rest ≡ j.first.front ++ (j.first.back ++ y) =
      ap (λ (l : List ℕ). l ++ rest) (j.text ∙ ap (λ (l : List ℕ). l ++ j.back) j.first.text) ∙ simp append_assoc in
      ap (λ (l : List ℕ). visited All (Members l)) all ∙ events_first m j.first.front
      (j.first.back ++ y) j.first.first (parted j.first.back y j.first.second) ∙ ap (λ a. parts m ++ visited All a)
      (after_separator j.first.back y j.first.second (fresh_after ms j.back rest j.second f))
      ∙ ap (λ (l : List TreeEvent). parts m ++ l) (after_each ms j.back rest j.second f)
      ∙ sym (append_assoc (parts m) (All ms) (visited All (Members rest)))

  -- the first value
  first_begins : (q : List ℕ) → Begins (visited All (Members q)) (visited parts (one q))
  unfolding bind led
  first_begins q = on (one q)
    where
      on : (a : Answer A) → Begins (visited All (and_then a (λ v. led (parts v) (More >>= λ vs. give (v ∷ vs)))))
          (visited parts a)
      on (Ok x) = (visited All (More x.1), put_events parts x.0 (More x.1))
      on (Err e) = ([], sym (append-nil e.events))

  -- the events of these values, and the first events of the next one
  pub each_begun : (ms : List A) (u rest : List ℕ) → Each ms u → F rest
      → Begins (visited All (Members (u ++ rest))) (All ms ++ visited parts (one rest))
  each_begun ms u rest h f = subst (λ (l : List TreeEvent). Begins l (All ms ++ visited parts (one rest)))
      (sym (after_each _ _ _ h f)) (begins_after _ _ _ (first_begins _))

-- values with separators between them: each but the last has one after it
pub record Parted {A : Type 0} (S : List ℕ → Type 0) (P : A → List ℕ → Type 0) (ms : List A) (t : List ℕ) : Type 0 where
  pub init : List A
  pub last : A
  pub same : ms ≡ init ++ last ∷ []
  pub front : List ℕ
  pub back : List ℕ
  pub text : t ≡ front ++ back
  pub each : IsJoining (λ m. P m ⨾ S) init front
  pub end : P last back

pub parted_of : {A : Type 0} (S : List ℕ → Type 0) (P : A → List ℕ → Type 0) (m : A) (ms : List A) (t : List ℕ)
    → IsSeparated S P (m ∷ ms) t → Parted S P (m ∷ ms) t
parted_of S P m [] t h = record {
  init = [];
  last = m;
  same = refl;
  front = [];
  back = t;
  text = refl;
  each = joining_none (λ m. P m ⨾ S);
  end = subst (P m) (sym (h.text ∙ ap (λ (l : List ℕ). h.front ++ l) (joining-nil h.second) ∙ append-nil h.front))
      h.first;
}
parted_of S P m (n ∷ ms) t h =
    let j = joining-cons h.second in
    let o = parted_of S P n ms (j.first.back ++ j.back) (in_turn j.first.back j.back j.first.second j.second) in
    record {
      init = m ∷ o.init;
      last = o.last;
      same = ap (λ ms. m ∷ ms) o.same;
      front = (h.front ++ j.first.front) ++ o.front;
      back = o.back;
      text = h.text ∙ ap (λ (l : List ℕ). h.front ++ l) (j.text ∙ ap (λ (l : List ℕ). l ++ j.back) j.first.text
          ∙ append_assoc j.first.front j.first.back j.back ∙ ap (λ (l : List ℕ). j.first.front ++ l) o.text)
          ∙ simp append_assoc;
      each = joining_into (λ m. P m ⨾ S) m o.init (h.front ++ j.first.front) o.front
          (in_turn h.front j.first.front h.first j.first.first) o.each;
      end = o.end;
    }
