-- Members with commas between them, of any kind.
use Rattle.std.proofs.Common.{◌≡◌, ℕ, ◌≤◌, true, eqb, List, [], ◌∷◌, ◌++◌, length, Some, None, Ok, Err, refl, sym, ap}
use Rattle.std.proofs.Common.{◌∙◌, append_assoc, arith, codes, flat_map, append-nil, length-append}
use Rattle.std.proofs.lemmas.Bool.{or_parts}
use Rattle.sfv_spec.specs.{Events.TreeEvent, Grammar.{OptionalWhitespace, Comma, AreMembersText}}
use Rattle.sfv_spec.specs.{Texts.{Exactly, RunOf, ◌⨾◌}, declared.error_kind.ErrorKind.TheVariants.TrailingComma}
use Rattle.sfv_spec.proofs.Marks.{tab, comma, is_space, is_space_or_tab}
use Rattle.sfv_model.specs.Fields.{comma_at, next_at, members_at}
use Rattle.sfv_model.specs.{Judgements.{Sound, Local}, Reader.{Fault, Reader, Apart, after_events, back, many, give}}
use Rattle.sfv_model.proofs.complete.Combinators.{Apart-nil, Apart-cons, branch_take, ahead_past, ahead_take, ahead_any}
use Rattle.sfv_model.proofs.complete.Combinators.{bind_complete, back_complete, led_complete, span_complete}
use Rattle.sfv_model.proofs.faults.PiecesToFault.{after_twice, bind_met, led_met, many_met}
use Rattle.sfv_model.proofs.local.Combinators.{Local-give, Local-fail, Local-led, Local-bind, Local-ahead, Local-back}
use Rattle.sfv_model.proofs.local.Combinators.{Local-span, local_rules}
use Rattle.sfv_model.proofs.sound.Combinators.{run_head, Found, Sound-give, Sound-fail, Sound-led, Sound-byte}
use Rattle.sfv_model.proofs.sound.Combinators.{Sound-ahead, Sound-bind, Sound-map, Sound-back, Sound-within, Sound-here}
use Rattle.sfv_model.proofs.sound.Combinators.{Sound-span, Reads, Goes, begins_after, begins_longer}
use Rattle.sfv_model.proofs.sound.Many.{Step, Consumes, Consumes-from, Local-many, many_complete}
use Rattle.sfv_model.proofs.sound.Steps.{StepGoes, Sound-steps}
use Rattle.sfv_model.proofs.texts.Joining.{Joined, split_joined, joined_split, in_turn}

-- a comma, and what may stand after it
abbrev pub IsComma : Unit {0} → List ℕ → Type 0
IsComma u = Exactly (codes ",") ⨾ OptionalWhitespace

pub Sound-comma : (W : List ℕ → List TreeEvent → Type 0) (V : List TreeEvent → Type 0)
    → Sound comma_at (Found IsComma) W V
unfolding comma_at
Sound-comma W V = Sound-byte _ (Sound-span _ _ _ _ _ (λ s each. Sound-ahead _ _ _ _ _ _
    (Sound-give _ _ _ _ (record {
      front = comma ∷ [];
      back = s;
      text = ap (λ (l : List ℕ). comma ∷ l) (append-nil s);
      first = refl;
      second = each;
    }))
    (Sound-give _ _ _ _ tt))) (Sound-give _ _ _ _ tt)

module _ {A : Type 0} (P : A → List ℕ → Type 0) (parts : A → List TreeEvent) (one : Reader A) where
  abbrev pub IsNext : A → List ℕ → Type 0
  IsNext m = Comma ⨾ P m

  abbrev pub NextGoes : List ℕ → List TreeEvent → Type 0
  NextGoes = StepGoes IsNext OptionalWhitespace parts

  abbrev pub MembersGo : List ℕ → List TreeEvent → Type 0
  MembersGo = Goes (AreMembersText P) (λ ms. flat_map parts ms)

  pub next_member : (before c t : List ℕ) (u : Unit {0}) (m : A) → RunOf is_space_or_tab before → IsComma u c → P m t
      → IsNext m (before ++ (c ++ t))
  next_member before c t u m each h k = record {
    front = before ++ c;
    back = t;
    text = sym (append_assoc before c t);
    first = in_turn before c each h;
    second = k;
  }

  pub Sound-next : Reads one P (Goes P parts) → Reads (next_at one) (Step IsNext OptionalWhitespace) NextGoes
  unfolding next_at
  Sound-next h = Sound-span _ _ _ _ _ (λ s each. let done : OptionalWhitespace (s ++ []) = rw (append-nil s) each in
      Sound-ahead _ _ _ _ _ _ (Sound-ahead _ _ _ _ _ _
      (Sound-bind IsComma (back TrailingComma comma_at) _ _ _ _ (Sound-back _ _ _ _ _ refl (
        [],
        (None, refl, ([], refl)),
      ) (Sound-comma _ _))
      (λ c u k. Sound-map (λ m. Some m) (Sound-here (λ x. s ++ (c ++ x)) (λ es. es) NextGoes h
      (λ m t g. next_member s c t u m each k g) (λ x es g. (Some g.0, next_member s c x u g.0 each k g.1, g.2)))))
      (Sound-fail _ _ _ _ [] (None, done, ([], refl)))) (Sound-give _ _ _ _ done))

  next_takes : (m : A) (t : List ℕ) → IsNext m t → 1 ≤ length t
  next_takes m t h = rw h.text (omega (
    arith,
    ap length h.first.text,
    ap length h.first.second.text,
    ap length h.first.second.first,
    length-append {A = ℕ},
  ))

  pub Consumes-next : Reads one P (Goes P parts) → Consumes (next_at one)
  Consumes-next h = Consumes-from _ _ _ _ _ (Sound-next h) next_takes

  -- in the form of the grammar
  pub dictionary_members_text : (s t u : List ℕ) (m : A) (ms : List A) → RunOf is_space s → P m t
      → Joined IsNext OptionalWhitespace ms u → AreMembersText P (m ∷ ms) (s ++ (t ++ u))
  dictionary_members_text s t u m ms each h j =
      let k = split_joined IsNext OptionalWhitespace ms u j in
      in_turn s (t ++ u) each (record {
        front = t ++ k.front;
        back = k.back;
        text = simp (k.text, append_assoc);
        first = in_turn t k.front h k.first;
        second = k.second;
      })

  pub Sound-members : Reads one P (Goes P parts) → Reads (members_at parts one) (AreMembersText P) MembersGo
  unfolding members_at
  Sound-members h = Sound-span _ _ _ _ _ (λ s each. Sound-ahead _ _ _ _ _ _ (Sound-bind P one _ _ _ _ (Sound-within
      (λ x. s ++ x) (λ es. es) MembersGo h (λ m t g. g) (λ x es g. (
        [],
        (g.0 ∷ [], dictionary_members_text s x [] g.0 [] each g.1 refl, begins_longer (parts g.0) es [] g.2),
      ))) (λ t m k. Sound-led _ (Sound-map (λ ms. m ∷ ms) (Sound-here
      (λ x. s ++ (t ++ x)) (λ es. parts m ++ es) MembersGo (Sound-steps IsNext OptionalWhitespace parts [] refl
      (next_at one) (Sound-next h)) (λ ms x j. dictionary_members_text s t x m ms each k j)
      (λ x es g. (
        m ∷ g.0,
        dictionary_members_text s t x m g.0 each k g.1,
        begins_after (parts m) (flat_map parts g.0) es g.2,
      )))))) (Sound-give _ _ _ _ (rw (append-nil s) each)))

  -- ---- what an answer rests on

  Local-comma : Local comma_at
  unfolding comma_at
  Local-comma = search local_rules depth 40

  pub Local-next : Local one → Local (next_at one)
  unfolding next_at
  Local-next l = Local-bind _ _ (Local-span _) (λ _. Local-ahead _ _ _ (Local-ahead _ _ _ (Local-bind _ _
      (Local-back _ _ Local-comma) (λ _. Local-bind _ _ l (λ m. Local-give _))) (Local-fail _)) (Local-give _))

  pub Local-members : Reads one P (Goes P parts) → Local one → Local (members_at parts one)
  unfolding members_at
  Local-members h l =
      let more : Local (many parts (next_at one)) = Local-many parts (next_at one) (Consumes-next h) (Local-next l) in
      Local-bind _ _ (Local-span _) (λ _. Local-ahead _ _ _
      (Local-bind _ _ l (λ m. Local-led _ _ (Local-bind _ _ more (λ ms. Local-give _)))) (Local-give _))

  -- ---- members are read again

  pub comma_complete : (after q : List ℕ) → RunOf is_space_or_tab after → Apart is_space_or_tab q → 1 ≤ length q
      → back TrailingComma comma_at (comma ∷ (after ++ q)) ≡ Ok (tt, q)
  unfolding comma_at give
  comma_complete after q each h some = back_complete _ _ _ _ _ (branch_take _ _ _ comma (after ++ q) refl
      ∙ bind_complete _ _ _ _ _ (span_complete is_space_or_tab after q each h) ∙ ahead_any _ _ q some)

  -- F: what may stand after a member
  module _ (F : List ℕ → Type 0) (again : (m : A) (t q : List ℕ) → P m t → F q
      → one (t ++ q) ≡ Ok (m, q)) (fresh : (m : A) (t q : List ℕ) → P m t
      → Apart is_space_or_tab (t ++ q) × (1 ≤ length (t ++ q)))
      (ends : (c : ℕ) (q : List ℕ) → is_space_or_tab c ≡ true → F (c ∷ q)) (comma_ends : (q : List ℕ)
      → F (comma ∷ q)) (end : F []) where
    pub blank_ends : (s q : List ℕ) → RunOf is_space_or_tab s → F q → F (s ++ q)
    blank_ends [] q each f = f
    blank_ends (c ∷ s) q each f = ends c (s ++ q) (run_head is_space_or_tab c s each)

    comma_no_blank : (q : List ℕ) → Apart is_space_or_tab (comma ∷ q)
    comma_no_blank q = Apart-cons is_space_or_tab comma q refl

    next_complete : (m : A) (t q : List ℕ) → IsNext m t → F q → (next_at one (t ++ q) ≡ Ok (Some m, q)) × F (t ++ q)
    unfolding next_at give
    next_complete m t q h f =
        let b : List ℕ = h.first.front in
        let c = h.first.second in
        let all : t ++ q ≡ b ++ comma ∷ (c.back ++ (h.back ++ q)) =
        ap (λ (l : List ℕ). l ++ q) (h.text ∙ ap (λ (l : List ℕ). l ++ h.back) (h.first.text
        ∙ ap (λ (l : List ℕ). b ++ l) (c.text ∙ ap (λ (l : List ℕ). l ++ c.back) c.first))) ∙ simp append_assoc in
        let n = fresh m h.back q h.second in (
          ap (next_at one) all ∙ bind_complete _ _ _ _ _ (span_complete _ _ _ h.first.first (comma_no_blank _))
              ∙ ahead_any _ _ _ (omega arith) ∙ ahead_take _ _ _ _ _ refl ∙ bind_complete _ _ _ _ _
              (comma_complete _ _ c.second n.0 n.1) ∙ bind_complete _ _ _ _ _ (again m h.back q h.second f),
          rw all (blank_ends _ _ h.first.first (comma_ends _)),
        )

    end_complete : (e : List ℕ) → RunOf is_space_or_tab e → (next_at one (e ++ []) ≡ Ok (None, [])) × F (e ++ [])
    unfolding next_at give
    end_complete e each = (
      bind_complete _ _ _ _ _ (span_complete _ _ _ each (Apart-nil _)) ∙ ahead_past _ _ _ _ (Apart-nil _),
      blank_ends _ _ each end,
    )

    no_space : (q : List ℕ) → Apart is_space_or_tab q → Apart is_space q
    no_space q h = record { apart = λ c e. (or_parts (is_space c) (eqb c tab) (h.apart c e)).0 }

    pub members_complete : Reads one P (Goes P parts) → (ms : List A) (t : List ℕ) → AreMembersText P ms t
        → members_at parts one t ≡ Ok (ms, [])
    unfolding members_at give
    members_complete r [] t h = ap (members_at parts one) (sym (append-nil t)) ∙ bind_complete _ _ _ _ _
        (span_complete _ _ _ h (Apart-nil _)) ∙ ahead_past _ _ _ _ (Apart-nil _)
    members_complete r (m ∷ ms) t h =
        let o = h.second.first in
        let rest : List ℕ = o.back ++ h.second.back in
        let more = many_complete _ _ (Consumes-next r) _ _ _ _ (λ v a q p f. next_complete _ _ _ p f)
        (λ e c. end_complete _ c) _ _ (joined_split _ _ _ _ _ o.second h.second.second) in
        let all : t ≡ h.front ++ (o.front ++ (rest ++ [])) =
        cc (h.text, h.second.text, o.text, append_assoc o.front o.back h.second.back, append-nil rest) in
        let n = fresh m o.front (rest ++ []) o.first in
        ap (members_at parts one) all ∙ bind_complete _ _ _ _ _ (span_complete _ _ _ h.first (no_space _ n.0))
        ∙ ahead_any _ _ _ n.1 ∙ bind_complete _ _ _ _ _ (again m o.front (rest ++ []) o.first more.1)
        ∙ led_complete _ _ _ _ _ (bind_complete _ _ _ _ _ more.0)

    -- up to a fault of what comes after the last
    pub members_met : Reads one P (Goes P parts) → (m : A) (ms : List A) (t q : List ℕ) (e : Fault)
        → (h : AreMembersText P (m ∷ ms) t) → next_at one (h.second.back ++ q) ≡ Err e → F q
        → members_at parts one (t ++ q) ≡ Err (after_events (flat_map parts (m ∷ ms)) e)
    unfolding members_at
    members_met r m ms t q e h met f =
        let o = h.second.first in
        let z : List ℕ = h.second.back in
        let more = many_met _ _ (Consumes-next r) _ F (λ v a q p f. next_complete _ _ _ p f)
        _ e met (blank_ends _ _ h.second.second f) _ _ o.second in
        let all : t ++ q ≡ h.front ++ (o.front ++ (o.back ++ (z ++ q))) = ap (λ (l : List ℕ). l ++ q) (h.text ∙ ap
        (λ (l : List ℕ). h.front ++ l) (h.second.text ∙ ap (λ (l : List ℕ). l ++ z) o.text)) ∙ simp append_assoc in
        let n = fresh m o.front (o.back ++ (z ++ q)) o.first in
        ap (members_at parts one) all ∙ bind_complete _ _ _ _ _ (span_complete _ _ _ h.first (no_space _ n.0))
        ∙ ahead_any _ _ _ n.1 ∙ bind_complete _ _ _ _ _ (again m o.front (o.back ++ (z ++ q)) o.first more.1)
        ∙ led_met _ _ _ _ (bind_met _ _ _ _ more.0) ∙ ap (λ (x : Fault). Err x)
        (after_twice (parts m) (flat_map parts ms) e)
