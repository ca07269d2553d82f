-- A fault of a reader, or a byte that it takes, is that of the reader of bare items, or of keys, which it calls.
use Rattle.std.proofs.Common.{◌≡◌, ℕ, zero, suc, ◌<◌, ◌≤◌, Bool, true, false, eqb, ◌||◌, List, [], ◌∷◌, ◌++◌, length}
use Rattle.std.proofs.Common.{Option, Some, None, Ok, Err, refl, sym, ap, subst, ◌∙◌, append_assoc, arith, inl, inr}
use Rattle.std.{proofs.Common.{◌⊎◌, true≢false, length-append}, specs.Prelude.⊤}
use Rattle.std.proofs.lemmas.{Bool.{cases_lt, cases_Bool}, List.append_cancel_right}
use Rattle.sfv_spec.specs.{Events.TreeEvent, Texts.RunOf}
use Rattle.sfv_spec.proofs.Marks.{asterisk, comma, left_parenthesis, question_mark, is_space_or_tab}
use Rattle.sfv_model.specs.{Bare.bare_at, Items.key_at, Judgements.{IsFault, Lasts, Local}, Places.IsLike}
use Rattle.sfv_model.specs.Reader.{Fault, Answer, Reader, first, any, at_reach, and_then, give, fail, ◌>>=◌, bind}
use Rattle.sfv_model.specs.Reader.{led_answer, led, branch, ahead, go_on, many}
use Rattle.sfv_model.proofs.Types.{Version, ErrorKind, TrailingComma, TrailingCharactersAfterMember}
use Rattle.sfv_model.proofs.Types.{ExpectedInnerListDelimiter, UnterminatedInnerList}
use Rattle.sfv_model.proofs.complete.Combinators.{branch_take, ahead_any, bind_complete}
use Rattle.sfv_model.proofs.places.Calls.{Leaf, bare, key, leaf_at, blocked, Stuck, Calls, calls_bare, calls_key}
use Rattle.sfv_model.proofs.places.Calls.{calls_as, calls_led, calls_bind, stuck_led, stuck_bind}
use Rattle.sfv_model.proofs.sound.{Combinators.{run_head, run_tail}, Many.{Consumes, many_is}}

-- a byte that nothing but bare items and keys takes
abbrev pub marked : Bool → ℕ
marked true = question_mark
marked false = asterisk

-- what is looked for: a fault like this one, or that such a byte in front of this rest is taken
pub data Mark : Type 0 where
  faulty : Fault → Mark
  eaten : Bool → List ℕ → Mark

-- it is met in t
abbrev pub Met : {A : Type 0} → Mark → List ℕ → Answer A → Type 0
Met (faulty e) t (Ok x) = ⊥
Met (faulty e) t (Err x) = IsLike x e
Met (eaten b m) t (Ok x) = (u : List ℕ) × (t ≡ u ++ marked b ∷ m) × (length x.1 ≤ length m)
Met (eaten b m) t (Err x) = ⊥

-- the kinds of fault of no bare item and no key, exact or not
abbrev pub Elsewhere : ErrorKind → Bool → Type 0
Elsewhere ExpectedInnerListDelimiter true = ⊤
Elsewhere UnterminatedInnerList true = ⊤
Elsewhere TrailingCharactersAfterMember true = ⊤
Elsewhere TrailingComma false = ⊤
Elsewhere _ _ = ⊥

abbrev pub Other : Mark → Type 0
Other (faulty e) = Elsewhere e.kind e.exact
Other (eaten b m) = ⊥

-- a leaf is called after before and meets the mark; E: it may be called at once
pub data Found {A : Type 0} (version : Version) (mark : Mark) (f : Reader A) (E : Leaf → Type 0)
    (t : List ℕ) : Type 0 where
  called : (leaf : Leaf) (before s : List ℕ) → t ≡ before ++ s → Calls version leaf f before → (before ≡ [] → E leaf)
      → Met mark s (leaf_at version leaf s) → Found version mark f E t
  elsewhere : Other mark → Found version mark f E t

-- no leaf
abbrev pub Never : Leaf → Type 0
Never leaf = ⊥

-- this leaf alone
abbrev pub Only : Leaf → Leaf → Type 0
Only one leaf = leaf ≡ one

-- the class has none of the marked bytes
abbrev pub Free : (ℕ → Bool) → Type 0
Free class = (class question_mark ≡ false) × (class asterisk ≡ false)

free_of : (class : ℕ → Bool) (b : Bool) → Free class → class (marked b) ≡ false
free_of class true h = h.0
free_of class false h = h.1

-- blanks and commas
abbrev pub is_skipped : ℕ → Bool
is_skipped c = is_space_or_tab c || eqb c comma

-- A reader of blanks and commas: it reads as much in front of any further byte that is no blank.
pub record Skips {A : Type 0} (f : Reader A) : Type 0 where
  pub skips : (t r : List ℕ) (v : A) → f t ≡ Ok (v, r)
      → (p : List ℕ) × (t ≡ p ++ r) × RunOf is_skipped p
      × ((c : ℕ) (q : List ℕ) → is_space_or_tab c ≡ false → f (p ++ c ∷ q) ≡ Ok (v, c ∷ q))
  pub faults : (t : List ℕ) (e : Fault) → f t ≡ Err e → Elsewhere e.kind e.exact

-- ---- lists

some_first : (u q r : List ℕ) → ¬ (u ≡ []) → first (u ++ q) ≡ first (u ++ r)
some_first [] q r h = absurd (h refl)
some_first (c ∷ u) q r h = refl

no_front : (p u : List ℕ) → p ++ u ≡ [] → u ≡ []
no_front [] u e = e
no_front (c ∷ p) u e = absurd cc

no_back : (p u : List ℕ) → p ++ u ≡ [] → p ≡ []
no_back [] u e = refl
no_back (c ∷ p) u e = absurd cc

-- the longer one of two endings
tail_split : (u q p r : List ℕ) → u ++ q ≡ p ++ r → length q ≤ length r → (w : List ℕ) × (r ≡ w ++ q)
tail_split u q [] r e le = (u, sym e)
tail_split [] q (x ∷ p) r e le =
    absurd (omega (arith, le, ap (length {A = ℕ}) e, length-append p r))
tail_split (y ∷ u) q (x ∷ p) r e le = let tails : u ++ q ≡ p ++ r = cc in tail_split u q p r tails le

-- a byte that was taken as one of a class is of it
pub run_has : (class : ℕ → Bool) (u m p r : List ℕ) (c : ℕ) → u ++ c ∷ m ≡ p ++ r → length r ≤ length m → RunOf class p
    → class c ≡ true
run_has class u m [] r c e le h = absurd (omega (arith, le, ap (length {A = ℕ}) e, length-append u (c ∷ m)))
run_has class [] m (x ∷ p) r c e le h = let same : x ≡ c = cc in ap class (sym same) ∙ run_head class x p h
run_has class (y ∷ u) m (x ∷ p) r c e le h = let tails : u ++ c ∷ m ≡ p ++ r = cc in
    run_has class u m p r c tails le (run_tail class x p h)

-- ---- marks

-- after a text that was read: it was met there, or is met in the rest
met_split : {A B : Type 0} (mark : Mark) (t p r : List ℕ) (v : A) (b : Answer B) → t ≡ p ++ r → Met mark t b
    → Met {A = A} mark t (Ok (v, r)) ⊎ Met mark r b
met_split (faulty e) t p r v (Ok x) parts h = absurd h
met_split (faulty e) t p r v (Err x) parts h = inr h
met_split (eaten b m) t p r v (Err x) parts h = absurd h
met_split (eaten b m) t p r v (Ok x) parts h = elim (cases_lt (length m) (length r)) [
  | inl l ↦ let w = tail_split h.0 (marked b ∷ m) p r (sym h.1 ∙ parts) (omega (arith, l)) in inr (w.0, w.1, h.2)
  | inr l ↦ inl (h.0, h.1, omega (arith, l))
]

met_tail : {A : Type 0} (mark : Mark) (class : ℕ → Bool) (c : ℕ) (r : List ℕ) (a : Answer A) → Free class
    → class c ≡ true → Met mark (c ∷ r) a → Met mark r a
met_tail (faulty e) class c r (Ok x) free is h = h
met_tail (faulty e) class c r (Err x) free is h = h
met_tail (eaten b m) class c r (Err x) free is h = h
met_tail (eaten b m) class c r (Ok x) free is h = on h.0 h.1
  where
    on : (u : List ℕ) → c ∷ r ≡ u ++ marked b ∷ m
        → (u : List ℕ) × (r ≡ u ++ marked b ∷ m) × (length x.1 ≤ length m)
    on [] e = let same : c ≡ marked b = cc in
        absurd (true≢false (sym is ∙ ap class same ∙ free_of class b free))
    on (d ∷ u) e = let tails : r ≡ u ++ marked b ∷ m = cc in (u, tails, h.2)

met_led : {A : Type 0} (mark : Mark) (es : List TreeEvent) (t : List ℕ) (a : Answer A) → Met mark t (led_answer es a)
    → Met mark t a
met_led (faulty e) es t (Ok x) h = h
met_led (faulty e) es t (Err x) h = record { kind = h.kind; rest = h.rest; exact = h.exact }
met_led (eaten b m) es t (Err x) h = h
met_led (eaten b m) es t (Ok x) h = h

met_fault : (A B : Type 0) (mark : Mark) (t : List ℕ) (x : Fault) → Met {A = A} mark t (Err x)
    → Met {A = B} mark t (Err x)
met_fault A B (faulty e) t x h = h
met_fault A B (eaten b m) t x h = h

pub met_give : {A : Type 0} (mark : Mark) (t : List ℕ) (v : A) → Met mark t (Ok (v, t)) → ⊥
met_give (faulty e) t v h = h
met_give (eaten b m) t v h =
    absurd (omega (arith, h.2, ap (length {A = ℕ}) h.1, length-append h.0 (marked b ∷ m)))

pub met_fail : (A : Type 0) (mark : Mark) (t : List ℕ) (x : Fault) → Elsewhere x.kind x.exact
    → Met {A = A} mark t (Err x) → Other mark
met_fail A (faulty e) t x h m = rw (← m.exact) (rw (← m.kind) h)
met_fail A (eaten b m) t x h g = g

-- a value made of it
met_map : {A B : Type 0} (mark : Mark) (t : List ℕ) (m : A → B) (a : Answer A)
    → Met mark t (and_then a (λ v. give (m v))) → Met mark t a
unfolding give
met_map (faulty e) t m (Ok x) h = h
met_map (faulty e) t m (Err x) h = h
met_map (eaten b w) t m (Ok x) h = h
met_map (eaten b w) t m (Err x) h = h

met_skip : {A : Type 0} (mark : Mark) (t p r : List ℕ) (v : A) → t ≡ p ++ r → RunOf is_skipped p
    → Met mark t (Ok (v, r)) → ⊥
met_skip (faulty e) t p r v parts each h = h
met_skip (eaten b m) t p r v parts each h = absurd (true≢false
    (sym (run_has is_skipped h.0 m p r (marked b) (sym h.1 ∙ parts) h.2 each) ∙ free_of is_skipped b (refl, refl)))

-- ---- the combinators

-- a fault, or a byte that is taken, is that of a leaf which the reader calls
pub record Walk {A : Type 0} (version : Version) (mark : Mark) (f : Reader A) (E : Leaf → Type 0) : Type 0 where
  pub walk : (t : List ℕ) → Met mark t (f t) → Found version mark f E t

-- a leaf that the second reader calls after some byte
after : {A B : Type 0} (version : Version) (f : Reader A) (g : A → Reader B) (v : A) (p r : List ℕ)
    → ((q : List ℕ) → first q ≡ first r → f (p ++ q) ≡ Ok (v, q)) → (leaf : Leaf) (before s : List ℕ)
    → r ≡ before ++ s → ¬ (before ≡ []) → Calls version leaf (g v) before → Calls version leaf (f >>= g) (p ++ before)
after version f g v p r reads leaf before s e some c = calls_as _ _ _ _ _ _ c (λ b q _. bind_complete _ _ _ _ _ (reads
    (before ++ b ∷ q) (some_first _ _ _ some ∙ ap first (sym e))))

-- the other reader goes on where no byte of the class stands first
abbrev pub Passed : {A : Type 0} → (ℕ → Bool) → (ℕ → Reader A) → Reader A → Leaf → Type 0
Passed class taken other leaf = ((c : ℕ) → blocked leaf c ≡ false → class c ≡ false)
    × ((r : List ℕ) → IsFault (branch class taken other (left_parenthesis ∷ left_parenthesis ∷ r)))

-- a leaf that is called by the other reader
past : {A : Type 0} (version : Version) (class : ℕ → Bool) (taken : ℕ → Reader A) (other : Reader A) (leaf : Leaf)
    (u : List ℕ) → ((c : ℕ) (r : List ℕ) → u ≡ c ∷ r → class c ≡ false) → (u ≡ [] → Passed class taken other leaf)
    → Calls version leaf other u → Calls version leaf (branch class taken other) u
unfolding branch
past version class taken other leaf [] out h c =
    let k = h refl in
    record { follows = λ b r free. rw (k.0 b free) (c.follows b r free); barred = k.1 }
past version class taken other leaf (b ∷ u) out h c =
    calls_as version leaf (branch class taken other) other [] (b ∷ u) c (λ d r none. rw (out b u refl) refl)

module _ {version : Version} {mark : Mark} where
  -- where a leaf is called by one reader, it is by another, after p
  lift : {A B : Type 0} {f : Reader A} {g : Reader B} {E E' : Leaf → Type 0} {t t' : List ℕ} (p : List ℕ) → t' ≡ p ++ t
      → ((leaf : Leaf) (before s : List ℕ) → t ≡ before ++ s → (before ≡ [] → E leaf) → Calls version leaf f before
      → Calls version leaf g (p ++ before) × (p ++ before ≡ [] → E' leaf))
      → Found version mark f E t → Found version mark g E' t'
  lift p parts h (called leaf before s e c some m) =
      let k = h leaf before s e some c in
      called leaf (p ++ before) s (parts ∙ ap (λ (l : List ℕ). p ++ l) e ∙ sym (append_assoc p before s)) k.0 k.1 m
  lift p parts h (elsewhere o) = elsewhere o

  -- where one reader calls a leaf, so does another
  here : {A B : Type 0} {f : Reader A} {g : Reader B} {E : Leaf → Type 0} {t : List ℕ}
      → ((leaf : Leaf) (before s : List ℕ) → t ≡ before ++ s → (before ≡ [] → E leaf) → Calls version leaf f before
      → Calls version leaf g before) → Found version mark f E t → Found version mark g E t
  here h = lift [] refl (λ leaf before s e some c. (h leaf before s e some c, some))

  pub Walk-weaker : {A : Type 0} {f : Reader A} {E E' : Leaf → Type 0} → ((leaf : Leaf) → E leaf → E' leaf)
      → Walk version mark f E → Walk version mark f E'
  Walk-weaker k h = record {
    walk = λ t m. lift [] refl (λ leaf before s e some c. (c, λ z. k leaf (some z))) (h.walk t m);
  }

  pub Walk-bare : Walk version mark (bare_at version) (Only bare)
  Walk-bare = record { walk = λ t m. called bare [] t refl (calls_bare version) (λ _. refl) m }

  pub Walk-key : Walk version mark key_at (Only key)
  Walk-key = record { walk = λ t m. called key [] t refl (calls_key version) (λ _. refl) m }

  pub Walk-give : {A : Type 0} (v : A) {E : Leaf → Type 0} → Walk version mark (give v) E
  unfolding give
  Walk-give v = record { walk = λ t m. absurd (met_give mark t v m) }

  pub Walk-fail : {A : Type 0} (k : ErrorKind) {E : Leaf → Type 0} → Elsewhere k true
      → Walk {A = A} version mark (fail k) E
  unfolding fail
  Walk-fail {A} k h = record { walk = λ t m. elsewhere (met_fail A mark t (at_reach k t) h m) }

  pub Walk-led : {A : Type 0} (es : List TreeEvent) {f : Reader A} {E : Leaf → Type 0} → Walk version mark f E
      → Walk version mark (led es f) E
  unfolding led
  Walk-led es {f} h = record {
    walk = λ t m. here (λ leaf before s e some c. calls_led _ _ _ _ _ c) (h.walk t (met_led _ _ _ _ m));
  }

  -- one reader after another that calls no leaf at once
  pub Walk-bind : {A B : Type 0} {f : Reader A} {g : A → Reader B} {E : Leaf → Type 0} → Walk version mark f E → Local f
      → ((v : A) → Walk version mark (g v) Never) → ((v : A) → Stuck (g v (0 ∷ []))) → Walk version mark (f >>= g) E
  unfolding bind
  Walk-bind {A} {B} {f} {g} {E} h l k s = record { walk = λ t m. on t (f t) refl (l.lasts t) m }
    where
      left : (t : List ℕ) → Found version mark f E t → Found version mark (f >>= g) E t
      left t = here (λ leaf before s' e some c. calls_bind version leaf f g before s c)

      on : (t : List ℕ) (a : Answer A) → f t ≡ a → Lasts f t a → Met mark t (and_then a g)
          → Found version mark (f >>= g) E t
      on t (Ok x) i l m = elim (met_split mark t l.0 x.1 x.0 (g x.0 x.1) l.1 m) [
        | inl w ↦ left t (h.walk t (rw i w))
        | inr w ↦ lift l.0 l.1 (λ leaf before s' e some c. (
          after version f g x.0 l.0 x.1 l.2 leaf before s' e some c,
          λ z. absurd (some (no_front l.0 before z)),
        )) ((k x.0).walk x.1 w)
      ]
      on t (Err x) i l m = left t (h.walk t (rw i (met_fault B A mark t x m)))

  skip_on : {A B : Type 0} (f : Reader A) (g : A → Reader B) (E E' : Leaf → Type 0) → Skips f
      → ((p r : List ℕ) (v : A) → f (p ++ r) ≡ Ok (v, r) → p ≡ [] → (leaf : Leaf) → E leaf → E' leaf)
      → ((v : A) → Walk version mark (g v) E) → (t : List ℕ) (a : Answer A) → f t ≡ a
      → Lasts f t a → Met mark t (and_then a g) → Found version mark (f >>= g) E' t
  skip_on {A} {B} f g E E' h some k t (Ok x) i l m =
      let w = h.skips t x.1 x.0 i in
      let same : l.0 ≡ w.0 = append_cancel_right l.0 w.0 x.1 (sym l.1 ∙ w.1) in
      let reads : (q : List ℕ) → first q ≡ first x.1 → f (w.0 ++ q) ≡ Ok (x.0, q) = λ q e. rw (← same) (l.2 q e) in
      elim (met_split mark t w.0 x.1 x.0 (g x.0 x.1) w.1 m) [
        | inl o ↦ absurd (met_skip mark t w.0 x.1 x.0 w.1 w.2 o)
        | inr o ↦ lift w.0 w.1 (λ leaf before s e at_once c. (
          on w.0 reads w.3 leaf before s e c,
          λ z. some w.0 x.1 x.0 (ap f (sym w.1) ∙ i) (no_back _ before z) leaf (at_once (no_front w.0 _ z)),
        )) ((k x.0).walk x.1 o)
      ]
    where
      on : (p : List ℕ) → ((q : List ℕ) → first q ≡ first x.1 → f (p ++ q) ≡ Ok (x.0, q))
          → ((c : ℕ) (q : List ℕ) → is_space_or_tab c ≡ false → f (p ++ c ∷ q) ≡ Ok (x.0, c ∷ q))
          → (leaf : Leaf) (before s : List ℕ) → x.1 ≡ before ++ s → Calls version leaf (g x.0) before
          → Calls version leaf (f >>= g) (p ++ before)
      on p reads again leaf [] s e c = calls_as version leaf (f >>= g) (g x.0) p [] c
          (λ b q none. bind_complete f g (p ++ b ∷ q) (b ∷ q) x.0 (again b q none))
      on p reads again leaf (b ∷ u) s e c = after version f g x.0 p x.1 reads leaf (b ∷ u) s e (λ z. absurd cc) c
  skip_on {A} {B} f g E E' h some k t (Err x) i l m = elsewhere (met_fail B mark t x (h.faults t x i) m)

  -- after blanks
  pub Walk-skip : {A B : Type 0} {f : Reader A} {g : A → Reader B} {E : Leaf → Type 0} → Skips f → Local f
      → ((v : A) → Walk version mark (g v) E) → Walk version mark (f >>= g) E
  unfolding bind
  Walk-skip {f = f} {g} {E} h l k = record {
    walk = λ t m. skip_on f g E E h (λ p r v i none leaf e. e) k t (f t) refl (l.lasts t) m;
  }

  -- after a comma and blanks
  pub Walk-skip_some : {A B : Type 0} {f : Reader A} {g : A → Reader B} {E : Leaf → Type 0} → Skips f → Local f
      → ((r : List ℕ) (v : A) → ¬ (f r ≡ Ok (v, r))) → ((v : A) → Walk version mark (g v) E)
      → Walk version mark (f >>= g) Never
  unfolding bind
  Walk-skip_some {f = f} {g} {E} h l some k = record {
    walk = λ t m. skip_on f g E Never h (λ p r v i none leaf e.
        some r v (subst (λ (p : List ℕ). f (p ++ r) ≡ Ok (v, r)) none i)) k t (f t) refl (l.lasts t) m;
  }

  -- by the byte that stands there, which is taken, or left to the other reader
  pub Walk-branch : {A : Type 0} {class : ℕ → Bool} {taken : ℕ → Reader A} {other : Reader A} {E E' : Leaf → Type 0}
      → Free class → ((c : ℕ) → class c ≡ true → Walk version mark (taken c) E') → Walk version mark other E
      → ((leaf : Leaf) → E leaf → Passed class taken other leaf) → Walk version mark (branch class taken other) E
  unfolding branch
  Walk-branch {A} {class} {taken} {other} {E} {E'} free h k at_once = record { walk = at }
    where
      at : (t : List ℕ) → Met mark t (branch class taken other t) → Found version mark (branch class taken other) E t
      at [] m = here (λ leaf before s e some d. past version class taken other leaf before
          (λ b q i. absurd (let none : [] ≡ b ∷ (q ++ s) = cc in cc)) (λ z. at_once leaf (some z)) d) (k.walk [] m)
      at (c ∷ r) m = elim (cases_Bool (class c)) [
        | inl is ↦ lift (c ∷ []) refl (λ leaf before s e some d. (
          calls_as version leaf (branch class taken other) (taken c) (c ∷ []) before d
              (λ b q _. branch_take class taken other c (before ++ b ∷ q) is),
          λ z. absurd cc,
        )) ((h c is).walk r (met_tail mark class c r (taken c r) free is (rw is at m)))
        | inr is ↦ here (λ leaf before s e some d.
            past version class taken other leaf before (λ b q i. let heads : c ∷ r ≡ b ∷ (q ++ s) = cc in
            let same : c ≡ b = cc in rw (← same) is) (λ z. at_once leaf (some z)) d) (k.walk (c ∷ r) (rw is at m))
      ]

  -- the other reader calls no leaf at once
  pub Walk-branch_never : {A : Type 0} {class : ℕ → Bool} {taken : ℕ → Reader A} {other : Reader A} {E' : Leaf → Type 0}
      → Free class → ((c : ℕ) → class c ≡ true → Walk version mark (taken c) E') → Walk version mark other Never
      → Walk version mark (branch class taken other) Never
  Walk-branch_never free h k = Walk-branch free h k (λ leaf no. absurd no)

  -- unless the text ends
  pub Walk-any : {A : Type 0} {x : Reader A} (y : Reader A) {E : Leaf → Type 0} → Walk version mark x E
      → (Met mark [] (y []) → Other mark) → Walk version mark (ahead any x y) E
  unfolding ahead
  Walk-any {A} {x} y {E} h k = record { walk = on }
    where
      on : (t : List ℕ) → Met mark t (ahead any x y t) → Found version mark (ahead any x y) E t
      on [] m = elsewhere (k m)
      on (c ∷ r) m = here (λ leaf before s e some d. calls_as version leaf (ahead any x y) x [] before d
          (λ b q none. ahead_any x y (before ++ b ∷ q) (omega (arith, length-append before (b ∷ q)))))
          (h.walk (c ∷ r) m)

  -- a leaf that is called by one reader is called by another that does the same at this byte
  looking : {A : Type 0} {f g : Reader A} {t : List ℕ} → ((c : ℕ) (r q : List ℕ) → t ≡ c ∷ r → f (c ∷ q) ≡ g (c ∷ q))
      → Found version mark g Never t → Found version mark f Never t
  looking {A} {f} {g} {t} same = here (λ leaf before s e some d. on leaf before s e some d)
    where
      on : (leaf : Leaf) (before s : List ℕ) → t ≡ before ++ s → ¬ (before ≡ []) → Calls version leaf g before
          → Calls version leaf f before
      on leaf [] s e some d = absurd (some refl)
      on leaf (b ∷ u) s e some d = calls_as version leaf f g [] (b ∷ u) d (λ a q none. same b (u ++ s) (u ++ a ∷ q) e)

  -- by the byte that stands there, and is left
  pub Walk-ahead : {A : Type 0} (class : ℕ → Bool) {x y : Reader A} → Walk version mark x Never
      → Walk version mark y Never → Walk version mark (ahead class x y) Never
  unfolding ahead
  Walk-ahead {A} class {x} {y} h k = record { walk = at }
    where
      at : (t : List ℕ) → Met mark t (ahead class x y t) → Found version mark (ahead class x y) Never t
      at [] m = looking (λ d r' q e. absurd cc) (k.walk [] m)
      at (c ∷ r) m = elim (cases_Bool (class c)) [
        | inl is ↦ looking (λ d r' q e. let same : c ≡ d = cc in rw (← same, is) refl) (h.walk (c ∷ r) (rw is at m))
        | inr is ↦ looking (λ d r' q e. let same : c ≡ d = cc in rw (← same, is) refl) (k.walk (c ∷ r) (rw is at m))
      ]

  -- step after step
  module _ {A : Type 0} (parts : A → List TreeEvent) (step : Reader (Option A)) (c : Consumes step) (l : Local step)
      (h : Walk version mark step Never) (s : Stuck (many parts step (0 ∷ []))) where
    stuck_on : (o : Option A) → Stuck (go_on parts (many parts step) o (0 ∷ []))
    unfolding give led bind
    stuck_on None = refl
    stuck_on (Some v) = stuck_led _ _ (stuck_bind _ _ (λ vs. refl) s)

    -- as the first step and what goes on after it
    abbrev Unrolled : Reader (List A)
    Unrolled = step >>= go_on parts (many parts step)

    within : (n : ℕ) (t : List ℕ) → length t < n → Met mark t (many parts step t)
        → Found version mark (many parts step) Never t
    unfolding bind give led
    within zero t lt m = absurd (omega arith)
    within (suc n) t lt m = here (λ leaf before s e some d. calls_as _ _ _ _ [] _ d (λ b q none. many_is _ _ c _)) (on
        (λ r less m. within _ _ less m) (step t) refl (l.lasts t) (rw (← many_is parts step c t) m))
      where
        left : Met mark t (step t) → Found version mark Unrolled Never t
        left w = here (λ leaf before s' e some d.
            calls_bind version leaf step (go_on parts (many parts step)) before stuck_on d) (h.walk t w)

        go : ((r : List ℕ) → length r < n → Met mark r (many parts step r)
            → Found version mark (many parts step) Never r)
            → (p r : List ℕ) (o : Option A) → step t ≡ Ok (o, r) → t ≡ p ++ r
            → ((q : List ℕ) → first q ≡ first r → step (p ++ q) ≡ Ok (o, q))
            → Met mark r (go_on parts (many parts step) o r) → Found version mark Unrolled Never t
        go again p r None i parted reads w = absurd (met_give mark r [] w)
        go again p r (Some v) i parted reads w =
            let less : length r < length t = c.consumes t r v i in
            let inner : Met mark r (many parts step r) = met_map mark r (λ vs. v ∷ vs) (many parts step r)
            (met_led mark (parts v) r _ w) in
            lift p parted (λ leaf before s' e some d. (
              after version step (go_on parts (many parts step)) (Some v) p r reads leaf before s' e some
                  (calls_led version leaf (parts v) (many parts step >>= λ vs. give (v ∷ vs)) before
                  (calls_bind version leaf (many parts step) (λ vs. give (v ∷ vs)) before (λ vs. refl) d)),
              λ z. absurd (some (no_front p before z)),
            )) (again r (omega arith) inner)

        on : ((r : List ℕ) → length r < n → Met mark r (many parts step r)
            → Found version mark (many parts step) Never r)
            → (a : Answer (Option A)) → step t ≡ a → Lasts step t a
            → Met mark t (and_then a (go_on parts (many parts step)))
            → Found version mark Unrolled Never t
        on again (Ok x) i w z = elim (met_split mark t w.0 x.1 x.0 (go_on parts (many parts step) x.0 x.1) w.1 z) [
          | inl o ↦ left (rw i o)
          | inr o ↦ go again w.0 x.1 x.0 i w.1 w.2 o
        ]
        on again (Err x) i w z = left (rw i (met_fault (List A) (Option A) mark t x z))

    pub Walk-many : Walk version mark (many parts step) Never
    Walk-many = record { walk = λ t m. within (suc (length t)) t (omega arith) m }
