-- A reader calls the reader of bare items, or of keys, after some text.
use Rattle.std.proofs.Common.{◌≡◌, ℕ, Bool, true, false, eqb, ◌||◌, List, [], ◌∷◌, ◌++◌, Ok, Err, refl, ap, ◌∙◌}
use Rattle.std.proofs.{Common.append_assoc, lemmas.Bool.or_parts}
use Rattle.sfv_spec.specs.{Events.TreeEvent, Values.BareValue, declared.version.Version.Version}
use Rattle.sfv_spec.proofs.Marks.{left_parenthesis, right_parenthesis, is_space_or_tab}
use Rattle.sfv_model.specs.{Bare.{token_at, bare_at}, Items.key_at, Judgements.IsFault, Places.IsLike}
use Rattle.sfv_model.specs.Reader.{Fault, Answer, Reader, after_events, and_then, ◌>>=◌, bind, led_answer, led, branch}
use Rattle.sfv_model.specs.Reader.{ahead, fail}

-- which of the two
pub data Leaf : Type 0 where
  bare key : Leaf

abbrev pub Value : Leaf → Type 0
Value bare = BareValue
Value key = List ℕ

abbrev pub leaf_at : Version → (leaf : Leaf) → Reader (Value leaf)
leaf_at version bare = bare_at version
leaf_at version key = key_at

-- what may be taken in front of it
abbrev pub blocked : Leaf → ℕ → Bool
blocked bare c = is_space_or_tab c || (eqb c left_parenthesis || eqb c right_parenthesis)
blocked key c = is_space_or_tab c

pub no_blank : (leaf : Leaf) (c : ℕ) → blocked leaf c ≡ false → is_space_or_tab c ≡ false
no_blank bare c e = (or_parts (is_space_or_tab c) (eqb c left_parenthesis || eqb c right_parenthesis) e).0
no_blank key c e = e

-- nothing reads the byte 0
abbrev pub Stuck : {A : Type 0} → Answer A → Type 0
Stuck (Ok x) = x.1 ≡ 0 ∷ []
Stuck (Err e) = (e.exact ≡ true) × (e.rest ≡ 0 ∷ [])

-- b faults as a does, and is stuck where a is
abbrev pub Follows : {A B : Type 0} → Answer A → Answer B → Type 0
Follows (Ok x) b = x.1 ≡ 0 ∷ [] → Stuck b
Follows (Err x) b = (e : Fault) × (b ≡ Err e) × IsLike x e

-- after u, f goes on as the leaf does; and two parentheses can't stand there
pub record Calls {A : Type 0} (version : Version) (leaf : Leaf) (f : Reader A) (u : List ℕ) : Type 0 where
  pub follows : (c : ℕ) (r : List ℕ) → blocked leaf c ≡ false → Follows (leaf_at version leaf (c ∷ r)) (f (u ++ c ∷ r))
  pub barred : (r : List ℕ) → IsFault (f (u ++ left_parenthesis ∷ left_parenthesis ∷ r))

pub like_self : (e : Fault) → IsLike e e
like_self e = record { kind = refl; rest = refl; exact = refl }

follows_self : {A : Type 0} (a : Answer A) → Follows a a
follows_self (Ok x) = λ e. e
follows_self (Err x) = (x, refl, like_self x)

pub calls_bare : (version : Version) → Calls version bare (bare_at version) []
unfolding bare_at token_at branch ahead fail
calls_bare version = record { follows = λ c r b. follows_self (bare_at version (c ∷ r)); barred = λ r. (_, refl) }

pub calls_key : (version : Version) → Calls version key key_at []
unfolding key_at branch fail
calls_key version = record { follows = λ c r b. follows_self (key_at (c ∷ r)); barred = λ r. (_, refl) }

-- a reader that goes on as another one does, after p
pub calls_as : {A : Type 0} (version : Version) (leaf : Leaf) (f g : Reader A) (p u : List ℕ) → Calls version leaf g u
    → ((c : ℕ) (r : List ℕ) → is_space_or_tab c ≡ false → f (p ++ (u ++ c ∷ r)) ≡ g (u ++ c ∷ r))
    → Calls version leaf f (p ++ u)
calls_as version leaf f g p u h same = record {
  follows = λ c r b. rw (ap f (append_assoc p u (c ∷ r)) ∙ same c r (no_blank leaf c b)) (h.follows c r b);
  barred = λ r.
      let m = h.barred r in (m.0, simp (append_assoc, same left_parenthesis (left_parenthesis ∷ r) refl, m.1));
}

pub stuck_led : {A : Type 0} (es : List TreeEvent) (b : Answer A) → Stuck b → Stuck (led_answer es b)
stuck_led es (Ok x) h = h
stuck_led es (Err e) h = h

follows_led : {A B : Type 0} (es : List TreeEvent) (a : Answer A) (b : Answer B) → Follows a b
    → Follows a (led_answer es b)
follows_led es (Ok x) b h = λ e. stuck_led es b (h e)
follows_led es (Err x) b h = (
  after_events es h.0,
  ap (led_answer es) h.1,
  record { kind = h.2.kind; rest = h.2.rest; exact = h.2.exact },
)

pub calls_led : {A : Type 0} (version : Version) (leaf : Leaf) (es : List TreeEvent) (f : Reader A) (u : List ℕ)
    → Calls version leaf f u → Calls version leaf (led es f) u
unfolding led
calls_led version leaf es f u h = record {
  follows = λ c r b. follows_led es (leaf_at version leaf (c ∷ r)) (f (u ++ c ∷ r)) (h.follows c r b);
  barred = λ r. let m = h.barred r in (after_events es m.0, ap (led_answer es) m.1);
}

pub stuck_bind : {A B : Type 0} (g : A → Reader B) (b : Answer A) → ((v : A) → Stuck (g v (0 ∷ []))) → Stuck b
    → Stuck (and_then b g)
stuck_bind g (Ok x) s h = rw h (s x.0)
stuck_bind g (Err e) s h = h

follows_bind : {A B C : Type 0} (g : B → Reader C) (a : Answer A) (b : Answer B) → ((v : B) → Stuck (g v (0 ∷ [])))
    → Follows a b → Follows a (and_then b g)
follows_bind g (Ok x) b s h = λ e. stuck_bind g b s (h e)
follows_bind g (Err x) b s h = (h.0, ap (λ b. and_then b g) h.1, h.2)

pub calls_bind : {A B : Type 0} (version : Version) (leaf : Leaf) (f : Reader A) (g : A → Reader B) (u : List ℕ)
    → ((v : A) → Stuck (g v (0 ∷ []))) → Calls version leaf f u → Calls version leaf (f >>= g) u
unfolding bind
calls_bind version leaf f g u s h = record {
  follows = λ c r b. follows_bind g (leaf_at version leaf (c ∷ r)) (f (u ++ c ∷ r)) s (h.follows c r b);
  barred = λ r. let m = h.barred r in (m.0, ap (λ b. and_then b g) m.1);
}
