-- What is read as a bare item is one.
use Rattle.std.proofs.Common.{ℕ, true, false, List, [], ◌∷◌, refl, ap, ℤ, append-nil, true≢false}
use Rattle.std.proofs.lemmas.Bool.{and_from}
use Rattle.sfv_spec.specs.Classes.{is_token_start}
use Rattle.sfv_spec.specs.{Events.TreeEvent, Grammar.IsBareText, Numbers.IsIntegerText, Strings.IsDisplayPiece}
use Rattle.sfv_spec.specs.Values.{BareValue, integer, decimal, string, byte_sequence, boolean, date, display_string}
use Rattle.sfv_spec.proofs.Marks.{double_quote, percent_sign, colon, digit_one, question_mark, at_sign}
use Rattle.sfv_model.specs.Bare.{number_at, boolean_at, token_at, as_date, date_at, quoted_at, bare_at}
use Rattle.sfv_model.specs.{Content.{bytes_at, IsBytesEnd}, Judgements.{Sound, Mute, Quiet}}
use Rattle.sfv_model.specs.{Quoted.{string_at, IsStringEnd, IsDisplayEnd}, Reader.{Reader, give, ◌>>=◌}}
use Rattle.sfv_model.proofs.{Types.{Version, Rfc8941, Rfc9651}, sound.ByteSequences.Sound-bytes}
use Rattle.sfv_model.proofs.sound.Combinators.{Found, Sound-give, Sound-fail, Sound-branch, Sound-byte, Sound-ahead}
use Rattle.sfv_model.proofs.sound.Combinators.{Sound-map, Sound-weaker, Sound-back, Sound-span, Reads, Somewhere}
use Rattle.sfv_model.proofs.sound.{Numbers.{IsNumber, Sound-number}, Quoted.{Sound-string, Sound-display}}
use Rattle.sfv_model.proofs.texts.Joining.{joining_none, in_turn}

-- readers of bare items hand nothing out
abbrev pub BareGoes : Version → List ℕ → List TreeEvent → Type 0
BareGoes version = Mute (IsBareText version)

abbrev Told : Version → List TreeEvent → Type 0
Told version = Somewhere (BareGoes version)

goes : (version : Version) (v : BareValue) (t : List ℕ) → IsBareText version v t → BareGoes version t []
goes version v t h = (v, h, refl)

-- ?1 is the text of a bare item
begun : (version : Version) → Told version []
begun version = (question_mark ∷ digit_one ∷ [], goes version (boolean true) (question_mark ∷ digit_one ∷ []) refl)

-- a reader that hands nothing out, and of whose value a bare item is made
Sound-quiet : (version : Version) {A : Type 0} {f : Reader A} {P : A → List ℕ → Type 0}
    (front : List ℕ → List ℕ) (make : A → BareValue) → Sound f P (Mute P) Quiet
    → ((v : A) (t : List ℕ) → P v t → IsBareText version (make v) (front t)) → Sound (f >>= λ v. give (make v))
    (λ v s. IsBareText version v (front s)) (λ s es. BareGoes version (front s) es) (Told version)
Sound-quiet version front make h k = Sound-map make (Sound-weaker h k
    (λ u es g. ([], (make g.0, rw (append-nil u) (k g.0 u g.1), g.2))) (λ es e. rw e (begun version)))

-- ---- booleans

Sound-boolean : (version : Version) → Sound boolean_at (λ v s. IsBareText version v (question_mark ∷ s))
    (λ s es. BareGoes version (question_mark ∷ s) es) (Told version)
unfolding boolean_at
Sound-boolean version = Sound-byte _ (Sound-give _ _ _ _ refl) (Sound-byte _ (Sound-give _ _ _ _ refl)
    (Sound-fail _ _ _ _ (digit_one ∷ []) (goes _ (boolean true) _ refl)))

-- ---- strings

string_of : (version : Version) (s t : List ℕ) → IsStringEnd s t → IsBareText version (string s) (double_quote ∷ t)
string_of version s t h = in_turn (double_quote ∷ []) t refl h

Sound-quote : (version : Version) → Sound (string_at >>= λ s. give (string s))
    (λ v s. IsBareText version v (double_quote ∷ s)) (λ s es. BareGoes version (double_quote ∷ s) es) (Told version)
Sound-quote version = Sound-quiet _ _ _ Sound-string (string_of version)

-- ---- byte sequences

colon_of : (version : Version) (s t : List ℕ) → IsBytesEnd s t → IsBareText version (byte_sequence s) (colon ∷ t)
colon_of version s t h = in_turn (colon ∷ []) t refl h

Sound-colon : (version : Version) → Sound (bytes_at >>= λ s. give (byte_sequence s))
    (λ v s. IsBareText version v (colon ∷ s)) (λ s es. BareGoes version (colon ∷ s) es) (Told version)
Sound-colon version = Sound-quiet version (λ s. colon ∷ s) (λ s. byte_sequence s) Sound-bytes (colon_of version)

-- ---- tokens

Sound-token : (version : Version) → Reads token_at (IsBareText version) (BareGoes version)
unfolding token_at
Sound-token version = Sound-branch _ _ _ _ _ _
    (λ c e. Sound-span _ _ _ _ _ (λ cs each. Sound-give _ _ _ _ (
      and_from (is_token_start c) _ e each,
      ap (λ (l : List ℕ). c ∷ l) (append-nil cs),
    )))
    (Sound-fail _ _ _ _ _ (begun version).1)

-- ---- dates

date_of : (z : ℤ) (t : List ℕ) → IsIntegerText z t → IsBareText Rfc9651 (date z) (at_sign ∷ t)
date_of z t h = (refl, in_turn (at_sign ∷ []) t refl h)

dated : (v : BareValue) (t : List ℕ) → IsNumber v t → Found (IsBareText Rfc9651) (as_date v) (at_sign ∷ t)
dated (integer z) t h = date_of z t h
dated (decimal z) t h = tt
dated _ t h = absurd h

Sound-date : (version : Version) → Reads (date_at version) (IsBareText version) (BareGoes version)
unfolding date_at
Sound-date Rfc8941 = Sound-fail _ _ _ _ _ (begun Rfc8941).1
Sound-date Rfc9651 = Sound-back _ _ _ _ _ refl (begun _) (Sound-byte _ (Sound-map _ (Sound-weaker (Sound-number _ _ _
    (λ z t h. goes _ (date z) _ (date_of _ _ h)) (λ e. absurd (true≢false e)) (begun _)) dated
    (λ u es g. ([], rw (append-nil u) g)) (λ es g. g))) (Sound-give _ _ _ _ tt))

-- ---- display strings

display_of : (s t : List ℕ) → IsDisplayEnd s t → IsBareText Rfc9651 (display_string s) (percent_sign ∷ double_quote ∷ t)
display_of s t h = (refl, in_turn _ _ refl h)

empty_display : IsDisplayEnd [] (double_quote ∷ [])
empty_display = in_turn [] (double_quote ∷ []) (joining_none IsDisplayPiece, ([], (refl, refl))) refl

Sound-quoted : (version : Version) → Reads (quoted_at version) (IsBareText version) (BareGoes version)
unfolding quoted_at
Sound-quoted Rfc8941 = Sound-fail _ _ _ _ _ (begun Rfc8941).1
Sound-quoted Rfc9651 = Sound-byte _ (Sound-byte _ (Sound-quiet _ _ _ Sound-display display_of) (Sound-fail _ _ _ _
    (double_quote ∷ double_quote ∷ []) (goes _ (display_string []) _ (display_of _ _ empty_display))))
    (Sound-fail _ _ _ _ _ (begun _).1)

-- ---- bare items

number_of : (version : Version) (v : BareValue) (t : List ℕ) → IsNumber v t → IsBareText version v t
number_of version (integer z) t h = h
number_of version (decimal z) t h = h
number_of version _ t h = absurd h

Sound-a_number : (version : Version) → Reads (number_at false) (IsBareText version) (BareGoes version)
Sound-a_number version = Sound-weaker (Sound-number _ _ _ (λ z t h. goes _ (integer z) _ h)
    (λ e z t h. goes _ (decimal z) _ h) (begun _)) (number_of _) (λ u es g. ([], rw (append-nil u) g)) (λ es g. g)

pub Sound-bare : (version : Version) → Reads (bare_at version) (IsBareText version) (BareGoes version)
unfolding bare_at
Sound-bare version = Sound-byte _ (Sound-boolean _) (Sound-byte _ (Sound-quote _) (Sound-byte _ (Sound-colon _)
    (Sound-ahead _ _ _ _ _ _ (Sound-date _) (Sound-ahead _ _ _ _ _ _ (Sound-quoted _) (Sound-ahead _ _ _ _ _ _
    (Sound-a_number _) (Sound-token _))))))
