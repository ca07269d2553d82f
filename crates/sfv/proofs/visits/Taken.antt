-- An error with an index: all events before the fault were taken.
use Rattle.std.proofs.Common.{◌≡◌, ℕ, ◌≤◌, false, List, [], ◌∷◌, ◌++◌, length, drop, Option, Some, None, Ok, Err, refl}
use Rattle.std.proofs.Common.{sym, ap, subst, ◌∙◌, inl, inr, MatchOption, is_some, flat_map}
use Rattle.std.{specs.List.FoldsTo, specs.Prelude.⊤, proofs.lemmas.Bool.cases_Bool}
use Rattle.sfv_spec.specs.{Events.{TreeEvent, inner_item_events}, Grammar.{IsKeyText, IsBareText}}
use Rattle.sfv_model.specs.{Bare.bare_at, Fields.comma_at, Items.{key_at, parameter_at}}
use Rattle.sfv_model.specs.{Judgements.{Reached, Sound, Mute, Quiet}, Members.inner_items_at}
use Rattle.sfv_model.specs.Reader.{Answer, Reader, Fault, after_events, visited, and_then, bind, ◌>>=◌, ahead, fail}
use Rattle.sfv_model.specs.{Reader.{first, give, at_reach}, Visits.Visited}
use Rattle.sfv_model.proofs.{Types.{Version, UnterminatedInnerList, ErrorKind}, sound.Bare.Sound-bare}
use Rattle.sfv_model.proofs.sound.Combinators.{Sound-give, Sound-fail, Sound-branch, Sound-ahead, Sound-bind}
use Rattle.sfv_model.proofs.sound.{Combinators.{Sound-span, Sound-back, Found, Reads}, Items.{Sound-key, Sound-value}}
use Rattle.sfv_base.specs.{Errors.{kind_of, index_of, error_of}, declared.error.Error.Error}
use Rattle.sfv.specs.{Memory.IsRefusal, declared.parser.cursor.Cursor.Cursor}
use Rattle.sfv.specs.parser.Cursor.{input, version, rest, located, IsErrorOf}
use Rattle.sfv.specs.parser.{Members.{item_delimiter_at, member_delimiter_at}, Visits.TookAll}
use Rattle.sfv.proofs.reads.{Delimiters.items_none, Errors.ErrorOf-here}

-- one run after another
pub runs_on : {S : Type 0} (takes : S → TreeEvent → S → Type 0) (es fs : List TreeEvent) (from middle to : S)
    → FoldsTo takes from es middle → FoldsTo takes middle fs to → FoldsTo takes from (es ++ fs) to
runs_on takes [] fs from middle to h k = subst (λ s. FoldsTo takes s fs to) (sym h) k
runs_on takes (e ∷ es) fs from middle to h k = (h.0, h.1, runs_on takes es fs h.0 middle to h.2 k)

-- the first part of a run
pub split_run : {S : Type 0} (takes : S → TreeEvent → S → Type 0) (es fs : List TreeEvent) (from to : S)
    → FoldsTo takes from (es ++ fs) to → (middle : S) × FoldsTo takes from es middle × FoldsTo takes middle fs to
split_run takes [] fs from to h = (from, refl, h)
split_run takes (e ∷ es) fs from to h =
    let rest = split_run takes es fs h.0 to h.2 in (rest.0, (h.0, h.1, rest.1), rest.2)

-- the fault of a part is that of the whole, after events that were taken before
pub took_after : {A B S : Type 0} (takes : S → TreeEvent → S → Type 0) (parts : A → List TreeEvent) (whole : B
    → List TreeEvent) (i : List ℕ) (e : Error) (a : Answer A) (b : Answer B) (front : List TreeEvent)
    (from middle to : S) → ((f : Fault) → a ≡ Err f → b ≡ Err (after_events front f)) → FoldsTo takes from front middle
    → IsErrorOf i e a × TookAll takes parts e a middle to → IsErrorOf i e b × TookAll takes whole e b from to
took_after {A} {B} takes parts whole i e a b front from middle to step run h = on (index_of e) a step h
  where
    on : (o : Option ℕ) (a : Answer A) → ((f : Fault) → a ≡ Err f → b ≡ Err (after_events front f))
        → MatchOption o (IsRefusal i e) (λ index. (located a ≡ Err (kind_of e, drop index i))
        × (index ≤ length i)) × MatchOption o ⊤ (λ index. Visited takes parts a middle to)
        → MatchOption o (IsRefusal i e) (λ index. (located b ≡ Err (kind_of e, drop index i))
        × (index ≤ length i)) × MatchOption o ⊤ (λ index. Visited takes whole b from to)
    on None a step h = h
    on (Some n) (Ok x) step h = let w = h.0.0 in absurd cc
    on (Some n) (Err f) step h =
        let s = step f refl in
        let w = h.0.0 in
        let told : located (Err f) ≡ Err (kind_of e, drop n i) = ap (λ (p : ErrorKind × List ℕ). Err p) cc in (
          (ap located s ∙ told, h.0.1),
          subst (λ (es : List TreeEvent). FoldsTo takes from es to) (sym (ap (visited whole) s))
              (runs_on takes front f.events from middle to run h.1),
        )

-- the whole goes on after the part
pub took_part : {A B S : Type 0} (takes : S → TreeEvent → S → Type 0) (parts : A → List TreeEvent) (whole : B
    → List TreeEvent) (i : List ℕ) (e : Error) (f : Reader A) (g : A → Reader B) (t : List ℕ) (b : Answer B)
    (from to : S) → b ≡ (f >>= g) t → IsErrorOf i e (f t) × TookAll takes parts e (f t) from to
    → IsErrorOf i e b × TookAll takes whole e b from to
unfolding bind
took_part takes parts whole i e f g t b from to eq h = took_after takes parts whole i e (f t) b [] from from to
    (λ x k. eq ∙ ap (λ a. and_then a g) k) refl h

-- the whole is the part
pub took_same : {A S : Type 0} (takes : S → TreeEvent → S → Type 0) (parts whole : A → List TreeEvent) (i : List ℕ)
    (e : Error) (a b : Answer A) (from to : S) → b ≡ a → IsErrorOf i e a × TookAll takes parts e a from to
    → IsErrorOf i e b × TookAll takes whole e b from to
took_same takes parts whole i e a b from to eq h = took_after _ _ _ _ _ _ _ [] _ _ _ (λ x k. eq ∙ k) refl h

-- no event comes before a fault of it
abbrev pub IsQuiet : {A : Type 0} → Answer A → Type 0
IsQuiet a = (f : Fault) → a ≡ Err f → f.events ≡ []

pub took_none : {A S : Type 0} (takes : S → TreeEvent → S → Type 0) (parts : A → List TreeEvent) (i : List ℕ)
    (e : Error) (a : Answer A) (from : S) → IsQuiet a → IsErrorOf i e a
    → IsErrorOf i e a × TookAll takes parts e a from from
took_none {A} takes parts i e a from quiet h = on (index_of e) a quiet h
  where
    on : (o : Option ℕ) (a : Answer A) → IsQuiet a
        → MatchOption o (IsRefusal i e) (λ index. (located a ≡ Err (kind_of e, drop index i))
        × (index ≤ length i))
        → MatchOption o (IsRefusal i e) (λ index. (located a ≡ Err (kind_of e, drop index i))
        × (index ≤ length i)) × MatchOption o ⊤ (λ index. Visited takes parts a from from)
    on None a quiet h = (h, tt)
    on (Some n) (Ok x) quiet h = let w = h.0 in absurd cc
    on (Some n) (Err f) quiet h =
        (h, subst (λ (es : List TreeEvent). FoldsTo takes from es from) (sym (quiet f refl)) refl)

-- ---- readers of which no event comes before a fault

abbrev Silent : {A : Type 0} → Reader A → Type 0
Silent f = Sound f (λ _ _. ⊤) (λ _ es. es ≡ []) Quiet

is_quiet : {A : Type 0} (f : Reader A) → Silent f → (t : List ℕ) → IsQuiet (f t)
is_quiet {A} f h t = on (f t) (h.sound t)
  where
    on : (a : Answer A) → Reached (λ _ _. ⊤) (λ _ es. es ≡ []) Quiet t a → IsQuiet a
    on (Ok x) m e k = absurd cc
    on (Err x) m e k =
        let same : x ≡ e = cc in
        subst (λ (x : Fault). x.events ≡ []) same (elim (cases_Bool x.exact) [
          | inl e ↦ (m.0 e).holds
          | inr e ↦ (m.1 e).0
        ])

silent : {A : Type 0} (f : Reader A) (P : A → List ℕ → Type 0) → Reads f P (Mute P) → Silent f
silent {A} f P h = record { sound = λ t. on t (f t) (h.sound t) }
  where
    on : (t : List ℕ) (a : Answer A) → Reached P (Mute P) (λ es. (u : List ℕ) × Mute P u es) t a
        → Reached (λ _ _. ⊤) (λ _ es. es ≡ []) Quiet t a
    on t (Ok x) m = (m.0, m.1, tt)
    on t (Err x) m = (
      (λ e. let g = m.0 e in record { front = g.front; more = g.more; parts = g.parts; holds = g.holds.2 }),
      (λ e. let g = m.1 e in (g.0.1.2, g.1)),
    )

pub key_quiet : (t : List ℕ) → IsQuiet (key_at t)
key_quiet t = is_quiet key_at (silent key_at IsKeyText Sound-key) t

pub bare_quiet : (version : Version) (t : List ℕ) → IsQuiet (bare_at version t)
bare_quiet version t = is_quiet (bare_at version) (silent (bare_at version) (IsBareText version) (Sound-bare version)) t

pub parameter_quiet : (version : Version) (t : List ℕ) → IsQuiet (parameter_at version t)
unfolding parameter_at
parameter_quiet version t = is_quiet _ (Sound-branch _ _ _ _ _ _ (λ c e. Sound-span _ _ _ _ _
    (λ s each. Sound-bind _ _ _ _ _ _ (silent _ _ Sound-key) (λ u key k. Sound-bind _ _ _ _ _ _
    (silent _ _ (Sound-value _)) (λ w v k. Sound-give _ _ _ _ tt)))) (Sound-give _ _ _ _ tt)) _

silent_give : {A : Type 0} (v : A) → Silent (give v)
silent_give v = Sound-give v (λ _ _. ⊤) (λ _ es. es ≡ []) Quiet tt

pub item_delimiter_quiet : (t : List ℕ) → IsQuiet (item_delimiter_at t)
unfolding item_delimiter_at
item_delimiter_quiet t = is_quiet _ (Sound-branch _ _ _ _ _ _ (λ c e. Sound-span _ _ _ _ _
    (λ s each. Sound-branch _ _ _ _ _ _ (λ d k. silent_give _) (silent_give _))) (Sound-branch _ _ _ _ _ _
    (λ d k. silent_give _) (Sound-ahead _ _ _ _ _ _ (Sound-fail _ _ _ _ [] refl) (Sound-fail _ _ _ _ [] refl)))) _

comma_silent : Sound comma_at (Found (λ (_ : Unit {0}) _. ⊤)) (λ _ es. es ≡ []) Quiet
unfolding comma_at
comma_silent = Sound-branch _ _ _ _ _ _ (λ c e. Sound-span _ _ _ _ _
    (λ s each. Sound-ahead _ _ _ _ _ _ (Sound-give (Some tt) _ _ _ tt) (Sound-give _ _ _ _ tt))) (Sound-give _ _ _ _ tt)

pub member_delimiter_quiet : (t : List ℕ) → IsQuiet (member_delimiter_at t)
unfolding member_delimiter_at
member_delimiter_quiet t = is_quiet _ (Sound-span _ _ _ _ _ (λ s each. Sound-ahead _ _ _ _ _ _ (Sound-ahead _ _ _ _ _ _
    (Sound-bind _ _ _ _ _ _ (Sound-back _ _ _ _ _ refl refl comma_silent) (λ u v k. silent_give _))
    (Sound-fail _ _ _ _ [] refl)) (silent_give _))) _

pub no_items_quiet : (version : Version) (t : List ℕ) → is_some (first t) ≡ false → IsQuiet (inner_items_at version t)
unfolding inner_items_at ahead fail
no_items_quiet version [] h f e = let same : at_reach UnterminatedInnerList [] ≡ f = cc in
    ap (λ (f : Fault). f.events) (sym same)
no_items_quiet version (c ∷ t) h f e = absurd cc

-- the end right after the opening parenthesis
pub no_items_visited : {S : Type 0} (takes : S → TreeEvent → S → Type 0) (p : Cursor) (from : S)
    → is_some (first (rest p)) ≡ false → IsErrorOf (input p) (error_of UnterminatedInnerList (Some p.index))
    (inner_items_at (version p) (rest p)) × TookAll takes (λ items. flat_map inner_item_events items)
    (error_of UnterminatedInnerList (Some p.index)) (inner_items_at (version p) (rest p)) from from
no_items_visited takes p from none = took_none takes (λ items. flat_map inner_item_events items)
    (input p) (error_of UnterminatedInnerList (Some p.index)) (inner_items_at (version p) (rest p)) from
    (no_items_quiet (version p) (rest p) none) (ErrorOf-here _ p _ _ refl (items_none (version p) _ none))
