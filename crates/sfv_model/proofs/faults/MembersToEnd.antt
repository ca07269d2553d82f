-- Members are read up to the end of the text.
use Rattle.std.proofs.Common.{◌≡◌, ℕ, zero, suc, ◌<◌, List, [], ◌∷◌, length, Option, Some, None, Ok, Err, refl, sym, ap}
use Rattle.std.proofs.{Common.{◌∙◌, arith, inl, inr}, lemmas.Bool.cases_Bool}
use Rattle.sfv_spec.specs.{Events.{TreeEvent, keyed_events}, Grammar.{IsMemberText, IsDictionaryMemberText}}
use Rattle.sfv_spec.{specs.Values.RawField, proofs.Marks.comma}
use Rattle.sfv_model.specs.Commas.{HasManyMembers}
use Rattle.sfv_model.specs.{Fields.{comma_at, next_at, members_at, whole_field_at}, Members.keyed_at}
use Rattle.sfv_model.specs.Reader.{Answer, Reader, any, byte, and_then, give, fail, ◌>>=◌, bind, led_answer, led, ahead}
use Rattle.sfv_model.specs.Reader.{go_on, many, back, one_and_more}
use Rattle.sfv_model.proofs.Types.{FieldKind, item_field, list_field, dictionary_field, Version, TrailingComma}
use Rattle.sfv_model.proofs.Types.{TrailingCharactersAfterMember}
use Rattle.sfv_model.proofs.sound.{Combinators.{Reads, Goes}, Many.{Consumes, many_is}}
use Rattle.sfv_model.proofs.sound.{Members.{Sound-entry, Sound-keyed}, Separated.Consumes-next}

-- what one reader after another has read
pub bind_read : {A B : Type 0} (f : Reader A) (g : A → Reader B) (t r : List ℕ) (w : B) → (f >>= g) t ≡ Ok (w, r)
    → (v : A) × (q : List ℕ) × (f t ≡ Ok (v, q)) × (g v q ≡ Ok (w, r))
unfolding bind
bind_read {A} {B} f g t r w i = on (f t) refl i
  where
    on : (a : Answer A) → f t ≡ a → and_then a g ≡ Ok (w, r)
        → (v : A) × (q : List ℕ) × (f t ≡ Ok (v, q)) × (g v q ≡ Ok (w, r))
    on (Ok x) e j = (x.0, x.1, e, j)
    on (Err x) e j = absurd cc

led_read : {A : Type 0} (es : List TreeEvent) (f : Reader A) (t r : List ℕ) (v : A) → led es f t ≡ Ok (v, r)
    → f t ≡ Ok (v, r)
unfolding led
led_read {A} es f t r v i = on (f t) refl i
  where
    on : (a : Answer A) → f t ≡ a → led_answer es a ≡ Ok (v, r) → f t ≡ Ok (v, r)
    on (Ok x) e j = e ∙ j
    on (Err x) e j = absurd cc

give_read : {A : Type 0} (v w : A) (t r : List ℕ) → give v t ≡ Ok (w, r) → (v ≡ w) × (t ≡ r)
unfolding give
give_read {A} v w t r i =
    let pairs : (v, t) ≡ (w, r) = cc in
    (ap (λ (x : A × List ℕ). x.0) pairs, ap (λ (x : A × List ℕ). x.1) pairs)

-- no step more: the text ends
next_none : {A : Type 0} (one : Reader A) (t r : List ℕ) → next_at one t ≡ Ok (None, r) → r ≡ []
unfolding next_at ahead fail
next_none {A} one t r i = let b = bind_read _ _ t r None i in on b.1 b.3
  where
    on : (q : List ℕ) → ahead any (ahead (byte comma) (back TrailingComma comma_at >>= λ _. one >>= λ m. give (Some m))
        (fail TrailingCharactersAfterMember)) (give None) q ≡ Ok (None, r) → r ≡ []
    on [] j = sym (give_read _ _ [] r j).1
    on (c ∷ q) j = elim (cases_Bool (byte comma c)) [
      | inl y ↦
          let b = bind_read _ _ (c ∷ q) r None (rw y at j) in
          let d = bind_read one (λ m. give (Some m)) b.1 r None b.3 in
          absurd (let none = (give_read _ _ d.1 r d.3).0 in cc)
      | inr n ↦ absurd (let k = rw n at j in cc)
    ]

module _ {A : Type 0} (parts : A → List TreeEvent) (step : Reader (Option A)) (c : Consumes step)
    (h : (t r : List ℕ) → step t ≡ Ok (None, r) → r ≡ []) where
  within : (n : ℕ) (t r : List ℕ) (vs : List A) → length t < n → many parts step t ≡ Ok (vs, r) → r ≡ []
  within zero t r vs lt i = absurd (omega arith)
  within (suc n) t r vs lt i =
      let b = bind_read step (go_on parts (many parts step)) t r vs (sym (many_is parts step c t) ∙ i) in
      on (λ q p ws less j. within n q p ws less j) b.0 b.1 b.2 b.3
    where
      on : ((q p : List ℕ) (ws : List A) → length q < n → many parts step q ≡ Ok (ws, p) → p ≡ [])
          → (o : Option A) (q : List ℕ) → step t ≡ Ok (o, q) → go_on parts (many parts step) o q ≡ Ok (vs, r) → r ≡ []
      on again None q e j = sym (give_read _ _ q r j).1 ∙ h t q e
      on again (Some v) q e j =
          let less : length q < length t = c.consumes t q v e in
          let b = bind_read (many parts step) (λ vs. give (v ∷ vs)) q r vs (led_read (parts v) _ q r vs j) in
          sym (give_read _ _ b.1 r b.3).1 ∙ again q b.1 b.0 (omega arith) b.2

  pub many_none : (t r : List ℕ) (vs : List A) → many parts step t ≡ Ok (vs, r) → r ≡ []
  many_none t r vs i = within (suc (length t)) t r vs (omega arith) i

members_none : {A : Type 0} (P : A → List ℕ → Type 0) (parts : A → List TreeEvent) (one : Reader A)
    (h : Reads one P (Goes P parts)) (t r : List ℕ) (ms : List A) → members_at parts one t ≡ Ok (ms, r) → r ≡ []
unfolding members_at ahead
members_none {A} P parts one h t r ms i = let b = bind_read _ _ t r ms i in on b.1 b.3
  where
    on : (q : List ℕ) → ahead any (one_and_more parts one (next_at one)) (give []) q ≡ Ok (ms, r) → r ≡ []
    on [] j = sym (give_read _ _ [] r j).1
    on (c ∷ q) j =
        let b = bind_read one _ (c ∷ q) r ms j in
        let d = bind_read (many parts (next_at one)) _ b.1 r ms (led_read (parts b.0) _ b.1 r ms b.3) in
        sym (give_read _ _ d.1 r d.3).1 ∙ many_none parts (next_at one) (Consumes-next P parts one h) (next_none one)
        b.1 d.1 d.0 d.2

-- a list or a dictionary leaves nothing
pub field_none : (version : Version) (kind : FieldKind) → HasManyMembers kind
    → (t r : List ℕ) (raw : RawField kind) → whole_field_at version kind t ≡ Ok (raw, r) → r ≡ []
unfolding whole_field_at
field_none version item_field many t r raw i = absurd many
field_none version list_field many t r raw i = members_none (IsMemberText version) _ _ (Sound-entry _) _ _ _ i
field_none version dictionary_field many t r raw i = members_none (IsDictionaryMemberText version) keyed_events
    (keyed_at version) (Sound-keyed version) t r raw i
