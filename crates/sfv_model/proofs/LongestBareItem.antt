-- A bare item is read as the longest text of one.
use Rattle.std.proofs.Common.{◌≡◌, ℕ, ◌≤◌, List, [], ◌∷◌, ◌++◌, length, Ok, refl, sym, ap, subst, ◌∙◌, arith, inl, inr}
use Rattle.std.proofs.Common.{not, ◌⊎◌, codes, append-nil, length-append}
use Rattle.std.proofs.lemmas.{Bool.not-true, List.append_cancel_right}
use Rattle.sfv_spec.specs.{Classes.is_token_inner, Grammar.{IsBareText, IsEnded}, Values.BareValue}
use Rattle.sfv_model.specs.{Bare.bare_at, Claims.{BeginsWithBare, BareIsExact}, Judgements.Lasts, Reader.{Apart, first}}
use Rattle.sfv_model.proofs.{Types.Version, base64.Lone.found_in}
use Rattle.sfv_model.proofs.complete.{Bare.bare_complete, Combinators.{Apart-nil, Apart-cons}}
use Rattle.sfv_model.proofs.{local.Bare.Local-bare, sound.Bare.Sound-bare, sound.Combinators.sound_at}

-- ---- the front

module _ (version : Version) where
  -- a text of a value is read to its end
  read_whole : (v : BareValue) (s : List ℕ) → IsBareText version v s → bare_at version s ≡ Ok (v, [])
  read_whole v s h = cc (append-nil s, bare_complete version v s [] h (Apart-nil is_token_inner))

  -- the reader stops where it did, if the text is cut off further on
  no_longer : (p rest : List ℕ) (v w : BareValue) (more after : List ℕ)
      → ((r : List ℕ) → first r ≡ first rest → bare_at version (p ++ r) ≡ Ok (v, r)) → rest ≡ more ++ after
      → IsBareText version w (p ++ more) → more ≡ []
  no_longer p rest v w [] after lasts e h = refl
  no_longer p rest v w (c ∷ more) after lasts e h =
      let short = lasts (c ∷ more) (ap first (sym e)) in
      let whole = read_whole w (p ++ c ∷ more) h in
      let pairs : (v, c ∷ more) ≡ (w, []) = cc in
      ap (λ (x : BareValue × List ℕ). x.1) pairs

-- where two beginnings of a text end: the second is no longer, or goes on after the first
parted : (a b c d : List ℕ) → a ++ b ≡ c ++ d → (length c ≤ length a)
    ⊎ ((more : List ℕ) × (c ≡ a ++ more) × (b ≡ more ++ d))
parted [] b c d e = inr (c, refl, e)
parted (x ∷ a) b [] d e = inl (omega arith)
parted (x ∷ a) b (y ∷ c) d e =
    let same : x ≡ y = cc in
    let tails : a ++ b ≡ c ++ d = cc in
    elim (parted a b c d tails) [
      | inl l ↦ inl (omega arith)
      | inr w ↦ inr (w.0, ap (λ (z : ℕ). z ∷ c) (sym same) ∙ ap (λ (l : List ℕ). x ∷ l) w.1, w.2)
    ]

-- the longest text
begins_on : (version : Version) (t : List ℕ) (v : BareValue) (rest s : List ℕ) → t ≡ s ++ rest → IsBareText version v s
    → Lasts (bare_at version) t (Ok (v, rest)) → BeginsWithBare version t v rest
begins_on version t v rest s parts means l =
    let same : l.0 ≡ s = append_cancel_right l.0 s rest (sym l.1 ∙ parts) in
    record {
      front = s;
      text = parts;
      means = means;
      only = λ w o.
          let pairs : (w, []) ≡ (v, []) = let one = read_whole version v s means in
          let other = read_whole version w s o in cc in ap (λ (x : BareValue × List ℕ). x.0) pairs;
      longest = λ longer after e w. elim (parted s rest longer after (sym parts ∙ e)) [
        | inl m ↦ m
        | inr m ↦
            let none = no_longer version l.0 rest v w.0 m.0 after l.2 m.2
            (rw (← m.1 ∙ ap (λ (p : List ℕ). p ++ m.0) (sym same)) w.1) in
            omega (arith, ap (length {A = ℕ}) m.1, length-append s m.0, ap (length {A = ℕ}) none)
      ];
    }

-- ---- what ends a bare item

pub ended_apart : (rest : List ℕ) → IsEnded rest → Apart is_token_inner rest
ended_apart [] h = Apart-nil is_token_inner
ended_apart (c ∷ rest) h = Apart-cons is_token_inner c rest (not-true (is_token_inner c)
    (found_in (codes "; \t,)") (λ b. not (is_token_inner b)) c refl h))

pub bare_is_exact : BareIsExact
bare_is_exact = (
  (λ version t v rest e.
      let h = sound_at (Sound-bare version) t (Ok (v, rest)) e in
      begins_on version t v rest h.0 h.1 h.2 (subst (Lasts (bare_at version) t) e ((Local-bare version).lasts t))),
  (λ version t fault e s rest parts w ended. let read = bare_complete version w.0 s rest w.1 (ended_apart rest ended) in
      let text = ap (bare_at version) parts in absurd cc),
)
