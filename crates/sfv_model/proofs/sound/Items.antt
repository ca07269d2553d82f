-- What is read as a key, parameters, an item is one.
use Rattle.std.proofs.Common.{◌≡◌, ℕ, ◌≤◌, true, List, [], ◌∷◌, ◌++◌, length, Some, refl, sym, ap, arith, inl, inr}
use Rattle.std.proofs.{Common.{flat_map, map, append-nil, length-append}, lemmas.Bool.and_from}
use Rattle.sfv_spec.specs.Classes.{is_key, is_key_start}
use Rattle.sfv_spec.specs.Events.{TreeEvent, bare_item, parameter, parameters_end, parameters_events, item_events}
use Rattle.sfv_spec.specs.Grammar.{IsBareText, IsKeyText, IsValueText, IsParametersText, IsItemText}
use Rattle.sfv_spec.specs.{Texts.{Exactly, RunOf}, Values.{BareValue, boolean, RawParameters}}
use Rattle.sfv_spec.proofs.Marks.{equals_sign, lower_a, semicolon, is_space, IsParameterText}
use Rattle.sfv_model.specs.Items.{key_at, value_at, parameter_at, parameter_event, parameters_at, item_of, item_at}
use Rattle.sfv_model.{specs.Judgements.Mute, proofs.Types.Version, proofs.sound.Bare.{BareGoes, Sound-bare}}
use Rattle.sfv_model.proofs.sound.Combinators.{Sound-give, Sound-fail, Sound-led, Sound-branch, Sound-byte, Sound-bind}
use Rattle.sfv_model.proofs.sound.Combinators.{Sound-map, Sound-within, Sound-here, Sound-span, Reads, Begins, Goes}
use Rattle.sfv_model.proofs.sound.Combinators.{begins_after, begins_longer}
use Rattle.sfv_model.proofs.sound.{Many.{Step, Consumes, Consumes-from}, Steps.{StepGoes, ManyGoes, Sound-steps}}
use Rattle.sfv_model.proofs.texts.Joining.{joining_none, joined_end, in_turn}

-- ---- keys

abbrev pub KeyGoes : List ℕ → List TreeEvent → Type 0
KeyGoes = Mute IsKeyText

pub Sound-key : Reads key_at IsKeyText KeyGoes
unfolding key_at
Sound-key = Sound-branch _ _ _ _ _ _
    (λ c e. Sound-span _ _ _ _ _ (λ cs each. Sound-give _ _ _ _ (
      and_from (is_key_start c) _ e each,
      ap (λ (l : List ℕ). c ∷ l) (append-nil cs),
    )))
    (Sound-fail _ _ _ _ (lower_a ∷ []) (lower_a ∷ [], (refl, refl), refl))

-- ---- parameters

-- *SP key, and a value, after the semicolon
pub parameter_of : (version : Version) (spaces k key t : List ℕ) (v : BareValue) → RunOf is_space spaces
    → IsKeyText key k → IsValueText version v t → IsParameterText version (key, v) (semicolon ∷ (spaces ++ (k ++ t)))
parameter_of version spaces k key t v each is_key is_value = in_turn (semicolon ∷ []) (spaces ++ (k ++ t)) refl
    (in_turn spaces (k ++ t) each (in_turn k t is_key is_value))

abbrev pub ParameterGoes : Version → List ℕ → List TreeEvent → Type 0
ParameterGoes version = StepGoes (IsParameterText version) (Exactly []) parameter_event

pub true_value : (version : Version) → IsValueText version (boolean true) []
true_value version = inl (refl, refl)

value_of : (version : Version) (v : BareValue) (t : List ℕ) → IsBareText version v t
    → IsValueText version v (equals_sign ∷ t)
value_of version v t h = inr (in_turn (equals_sign ∷ []) t refl h)

pub Sound-value : (version : Version) → Reads (value_at version) (IsValueText version) (Mute (IsValueText version))
unfolding value_at
Sound-value version = Sound-byte _
    (Sound-here (λ u. equals_sign ∷ u) (λ es. es) (Mute (IsValueText version)) (Sound-bare version) (value_of version)
    (λ u es g. (g.0, value_of version g.0 u g.1, g.2))) (Sound-give _ _ _ _ (true_value version))

-- nothing is visited before the value is read
none_yet : (p : List ℕ × BareValue) (es : List TreeEvent) → es ≡ [] → Begins (parameter_event p) es
none_yet p es e = (parameter_event p, ap (λ (l : List TreeEvent). l ++ parameter_event p) (sym e))

pub Sound-parameter : (version : Version) → Reads (parameter_at version) (Step (IsParameterText version) (Exactly []))
    (ParameterGoes version)
unfolding parameter_at
Sound-parameter version = Sound-byte _ (Sound-span _ _ _ _ _ (λ spaces each. Sound-bind IsKeyText key_at _ _ _ _
    (Sound-within (λ u. semicolon ∷ (spaces ++ u)) (λ es. es) (ParameterGoes version) Sound-key (λ v t h. h)
    (λ u es g. (
      [],
      (
        Some (g.0, boolean true),
        parameter_of version spaces u g.0 [] (boolean true) each g.1 (true_value version),
        none_yet (g.0, boolean true) es g.2,
      ),
    )))
    (λ k key is_key. Sound-map (λ v. Some (key, v)) (Sound-here (λ u. semicolon ∷ (spaces ++ (k ++ u))) (λ es. es)
    (ParameterGoes version) (Sound-value version) (λ v t h. parameter_of version spaces k key t v each is_key h)
    (λ u es g. (
      Some (key, g.0),
      parameter_of version spaces k key u g.0 each is_key g.1,
      none_yet (key, g.0) es g.2,
    ))))))
    (Sound-give _ _ _ _ refl)

parameter_takes : (version : Version) (p : List ℕ × BareValue) (t : List ℕ) → IsParameterText version p t → 1 ≤ length t
parameter_takes version p t h = rw h.text (omega (arith, ap length h.first, length-append h.front h.back))

pub Consumes-parameter : (version : Version) → Consumes (parameter_at version)
Consumes-parameter version = Consumes-from _ _ _ _ _ (Sound-parameter _) (parameter_takes _)

each_event : (ps : RawParameters) → flat_map parameter_event ps ≡ map (λ p. parameter p.0 p.1) ps
each_event [] = refl
each_event (p ∷ ps) = ap (λ (l : List TreeEvent). parameter p.0 p.1 ∷ l) (each_event ps)

pub parameters_begin : (ps : RawParameters) (es : List TreeEvent) → Begins (flat_map parameter_event ps) es
    → Begins (parameters_events ps) es
parameters_begin ps es b = begins_longer _ es (parameters_end ∷ []) (rw (← each_event ps) b)

abbrev pub ParametersGo : Version → List ℕ → List TreeEvent → Type 0
ParametersGo version = Goes (IsParametersText version) parameters_events

parameters_go : (version : Version) (u : List ℕ) (es : List TreeEvent)
    → ManyGoes (IsParameterText version) (Exactly []) parameter_event u es → ParametersGo version u es
parameters_go version u es g = (g.0, joined_end (IsParameterText version) g.0 u g.1, parameters_begin g.0 es g.2)

pub Sound-parameters : (version : Version) → Reads (parameters_at version) (IsParametersText version)
    (ParametersGo version)
unfolding parameters_at
Sound-parameters version = Sound-here (λ u. u) (λ es. es) (ParametersGo version) (Sound-steps _ _ _ _ refl _
    (Sound-parameter _)) (joined_end _) (parameters_go _)

-- ---- items

abbrev pub ItemGoes : Version → List ℕ → List TreeEvent → Type 0
ItemGoes version = Goes (IsItemText version) item_events

pub item_with : (version : Version) (b : BareValue) (ps : RawParameters) (s t : List ℕ) → IsBareText version b s
    → IsParametersText version ps t → IsItemText version (item_of b ps) (s ++ t)
item_with version b ps s t h k = in_turn s t h k

bare_goes : (version : Version) (u : List ℕ) (es : List TreeEvent) → BareGoes version u es
    → ItemGoes version (u ++ []) es
bare_goes version u es g = (
  item_of g.0 [],
  item_with version g.0 [] u [] g.1 (joining_none (IsParameterText version)),
  (item_events (item_of g.0 []), ap (λ (l : List TreeEvent). l ++ item_events (item_of g.0 [])) (sym g.2)),
)

after_bare : (version : Version) (b : BareValue) (s : List ℕ) → IsBareText version b s
    → (u : List ℕ) (es : List TreeEvent) → ParametersGo version u es → ItemGoes version (s ++ u) (bare_item b ∷ es)
after_bare version b s h u es g = (item_of b g.0, item_with _ _ _ _ _ h g.1, begins_after (bare_item b ∷ []) _ _ g.2)

pub Sound-item : (version : Version) → Reads (item_at version) (IsItemText version) (ItemGoes version)
unfolding item_at
Sound-item version = Sound-bind _ _ _ _ _ _ (Sound-within (λ u. u) (λ es. es) (ItemGoes version) (Sound-bare _)
    (λ v t h. h) (λ u es g. ([], bare_goes _ _ _ g))) (λ s b h. Sound-led _ (Sound-map _ (Sound-here (λ u. s ++ u)
    (λ es. bare_item b ∷ es) (ItemGoes version) (Sound-parameters _) (λ ps t k. item_with _ _ _ _ _ h k)
    (after_bare _ _ _ h))))
