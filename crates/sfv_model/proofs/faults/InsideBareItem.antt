-- What can stand in a bare item in place of a question mark or an asterisk.
use Rattle.std.proofs.Common.{◌≡◌, ℕ, zero, suc, ◌<◌, Bool, true, false, ◌||◌, ℤ, List, [], ◌∷◌, ◌++◌, length, map}
use Rattle.std.proofs.Common.{replicate, refl, sym, ap, subst, ◌∙◌, append_assoc, arith, inl, inr, not, ◌==◌, ◌⊎◌}
use Rattle.std.proofs.Common.{IsTrue, IsUtf8, codes, true≢false, leb-true, append-nil, length-append, take_at}
use Rattle.std.specs.List.{list_all}
use Rattle.std.proofs.{Math.Seq.get_or-append_seam, lemmas.Bool.{and_parts, and_from, both_ways, or_left, and_right}}
use Rattle.std.proofs.lemmas.{List.Folds.list_all-append, Str.{IsUtf8-take, IsUtf8-append, IsCharBoundary-before_ascii}}
use Rattle.sfv_spec.specs.{Base64.symbol, Classes.{is_token_inner, is_token, is_string_byte, is_lower_hexadecimal}}
use Rattle.sfv_spec.specs.{Grammar.IsBareText, Numbers.{signed, place_value, IsIntegerText, IsDecimalText}}
use Rattle.sfv_spec.specs.{Strings.{IsStringPiece, is_plain_in_display, IsDisplayPiece}, Texts.{RunOf, IsJoining}}
use Rattle.sfv_spec.specs.Values.{BareValue, integer, decimal, string, token, byte_sequence, boolean, date}
use Rattle.sfv_spec.specs.{Values.display_string, declared.version.Version.Version}
use Rattle.sfv_spec.proofs.Marks.{double_quote, percent_sign, colon, minus_sign, dot, question_mark, at_sign, backslash}
use Rattle.sfv_spec.proofs.Marks.{equals_sign, is_digit, minus_text, is_symbol, is_plain_in_string}
use Rattle.sfv_spec.proofs.Settled.{joining-nil, joining-cons}
use Rattle.sfv_model.specs.BareFaults.{MarkInside, AsteriskInside}
use Rattle.sfv_model.specs.{Content.IsBytesEnd, Quoted.{IsStringEnd, IsDisplayEnd}}
use Rattle.sfv_model.proofs.{base64.Shape.are_symbols, faults.ItemEnds.parted, quoted.DisplaySteps.plain_utf8}
use Rattle.sfv_model.proofs.sound.Combinators.{run_cons, run_head}
use Rattle.sfv_model.proofs.texts.{Joining.{joining_none, joining_into, joining_append, joining_run}, Ranges.run_weaker}

-- ---- a byte in a run

run_parts : (class : ℕ → Bool) (s t : List ℕ) → RunOf class (s ++ t) → RunOf class s × RunOf class t
run_parts class s t h = and_parts (list_all class s) (list_all class t) (sym (list_all-append class s t) ∙ h)

-- the byte is of the class
run_holds : (class : ℕ → Bool) (x : List ℕ) (m : ℕ) (c : List ℕ) → RunOf class (x ++ m ∷ c) → class m ≡ true
run_holds class x m c h = run_head class m c (run_parts class x (m ∷ c) h).1

run_replicate : (class : ℕ → Bool) (n c : ℕ) → class c ≡ true → RunOf class (replicate n c)
run_replicate class zero c e = refl
run_replicate class (suc n) c e = run_cons class c (replicate n c) e (run_replicate class n c e)

-- two bytes that a class tells apart
differ : (class : ℕ → Bool) (m n : ℕ) → class m ≡ true → class n ≡ false → m ≡ n → ⊥
differ class m n h k e = true≢false (sym h ∙ ap class e ∙ k)

-- ---- numbers and Byte Sequences, which hold few bytes

abbrev is_number_byte : ℕ → Bool
is_number_byte c = is_digit c || (c == dot || c == minus_sign)

number_run : (digits : List ℕ) → RunOf is_digit digits → RunOf is_number_byte digits
number_run digits h = run_weaker is_digit is_number_byte (λ c e. or_left _ (c == dot || c == minus_sign) e) digits h

minus_run : (negative : Bool) → RunOf is_number_byte (minus_text negative)
minus_run true = refl
minus_run false = refl

integer_run : (z : ℤ) (t : List ℕ) → IsIntegerText z t → RunOf is_number_byte t
integer_run z t h = simp (h.text, list_all-append, minus_run h.negative, number_run h.digits h.counted.2)

decimal_run : (z : ℤ) (t : List ℕ) → IsDecimalText z t → RunOf is_number_byte t
decimal_run z t h = simp (
  h.text,
  list_all-append,
  minus_run h.negative,
  number_run h.whole h.counted.0.2,
  number_run h.fraction h.counted.1.2,
)

abbrev is_bytes_byte : ℕ → Bool
is_bytes_byte c = is_symbol c || (c == equals_sign || c == colon)

bytes_run : (bytes t : List ℕ) → IsBytesEnd bytes t → RunOf is_bytes_byte t
unfolding is_symbol
bytes_run bytes t h =
    let b = h.first in
    let symbols : RunOf is_bytes_byte (map symbol b.values) = run_weaker is_symbol is_bytes_byte (λ c e. or_left
    (is_symbol c) (c == equals_sign || c == colon) e) (map symbol b.values) (are_symbols b.values b.in_range.0) in
    let padding = run_replicate is_bytes_byte b.padding equals_sign refl in
    simp (h.text, b.text, h.second, list_all-append, symbols, padding)

-- ---- a byte among pieces: it is one itself

record Parted (P : ℕ → List ℕ → Type 0) (m : ℕ) (bytes x : List ℕ) : Type 0 where
  front : List ℕ
  past : List ℕ
  text : IsJoining P front x
  all : bytes ≡ front ++ m ∷ past

-- it is the next piece, or stands after that
abbrev IsAfter : ℕ → ℕ → List ℕ → List ℕ → List ℕ → List ℕ → Type 0
IsAfter m c p x q r = ((x ≡ []) × (c ≡ m)) ⊎ ((y : List ℕ) × (x ≡ p ++ y) × (r ≡ y ++ m ∷ q))

module _ (P : ℕ → List ℕ → Type 0) (m : ℕ) (no_quote : m ≡ double_quote → ⊥) (goes : (c : ℕ) (p x q r : List ℕ)
    → P c p → p ++ r ≡ x ++ m ∷ q → IsAfter m c p x q r) where
  part : (bytes t x q : List ℕ) → IsJoining P bytes t → t ++ double_quote ∷ [] ≡ x ++ m ∷ q → Parted P m bytes x
  part [] t x q j e = absurd (alone x (ap (λ (l : List ℕ). l ++ double_quote ∷ []) (sym (joining-nil j)) ∙ e))
    where
      alone : (x : List ℕ) → double_quote ∷ [] ≡ x ++ m ∷ q → ⊥
      alone [] e = let same : double_quote ≡ m = cc in no_quote (sym same)
      alone (a ∷ x) e = omega (arith, ap (length {A = ℕ}) e, length-append x (m ∷ q))
  part (c ∷ bytes) t x q j e =
      let k = joining-cons j in
      let split : k.front ++ (k.back ++ double_quote ∷ []) ≡ x ++ m ∷ q = sym (append_assoc k.front k.back
      (double_quote ∷ [])) ∙ ap (λ (l : List ℕ). l ++ double_quote ∷ []) (sym k.text) ∙ e in
      elim (goes c k.front x q (k.back ++ double_quote ∷ []) k.first split) as (λ z. Parted P m (c ∷ bytes) x) [
        | inl w ↦ record {
          front = [];
          past = bytes;
          text = subst (λ (l : List ℕ). IsJoining P [] l) (sym w.0) (joining_none P);
          all = ap (λ (c : ℕ). c ∷ bytes) w.1;
        }
        | inr w ↦ let r = part bytes k.back w.0 q k.second w.2 in record {
          front = c ∷ r.front;
          past = r.past;
          text = subst (λ (l : List ℕ). IsJoining P (c ∷ r.front) l) (sym w.1)
              (joining_into P c r.front k.front w.0 k.first r.text);
          all = ap (λ (l : List ℕ). c ∷ l) r.all;
        }
      ]

-- a piece of one byte
after_one : (m c : ℕ) (p x q r : List ℕ) → p ≡ c ∷ [] → p ++ r ≡ x ++ m ∷ q → IsAfter m c p x q r
after_one m c p [] q r s e = let all : c ∷ r ≡ m ∷ q = ap (λ (p : List ℕ). p ++ r) (sym s) ∙ e in inl (refl, cc)
after_one m c p (a ∷ y) q r s e =
    let all : c ∷ r ≡ a ∷ (y ++ m ∷ q) = ap (λ (p : List ℕ). p ++ r) (sym s) ∙ e in inr (y, rw s cc, cc)

after_string : (m : ℕ) → is_plain_in_string m ≡ true → (c : ℕ) (p x q r : List ℕ) → IsStringPiece c p
    → p ++ r ≡ x ++ m ∷ q → IsAfter m c p x q r
after_string m plain c p x q r (inl h) e = after_one m c p x q r h.1 e
after_string m plain c p x q r (inr h) e = two x (ap (λ (p : List ℕ). p ++ r) (sym h.1) ∙ e)
  where
    two : (x : List ℕ) → backslash ∷ c ∷ r ≡ x ++ m ∷ q → IsAfter m c p x q r
    two [] e = let same : backslash ≡ m = cc in absurd (differ is_plain_in_string m backslash plain refl (sym same))
    two (a ∷ []) e = let same : c ≡ m = cc in
        absurd (both_ways (is_plain_in_string m) (rw (← same) (and_right (is_string_byte c) _ (ap not h.0))) plain)
    two (a ∷ b ∷ y) e = inr (y, rw h.1 cc, cc)

after_display : (m : ℕ) → is_plain_in_display m ≡ true → is_lower_hexadecimal m ≡ false → (c : ℕ) (p x q r : List ℕ)
    → IsDisplayPiece c p → p ++ r ≡ x ++ m ∷ q → IsAfter m c p x q r
after_display m plain no_digit c p x q r (inl h) e = after_one m c p x q r h.1 e
after_display m plain no_digit c p x q r (inr h) e = three x (ap (λ (p : List ℕ). p ++ r) (sym h.4) ∙ e)
  where
    three : (x : List ℕ) → percent_sign ∷ h.0 ∷ h.1 ∷ r ≡ x ++ m ∷ q → IsAfter m c p x q r
    three [] e = let same : percent_sign ≡ m = cc in
        absurd (differ is_plain_in_display m percent_sign plain refl (sym same))
    three (a ∷ []) e = let same : h.0 ≡ m = cc in
        absurd (differ is_lower_hexadecimal h.0 m (and_parts (is_lower_hexadecimal h.0) _ h.2).0 no_digit same)
    three (a ∷ b ∷ []) e = let same : h.1 ≡ m = cc in
        absurd (differ is_lower_hexadecimal h.1 m (and_parts (is_lower_hexadecimal h.0) _ h.2).1 no_digit same)
    three (a ∷ b ∷ d ∷ y) e = inr (y, rw h.4 cc, cc)

-- ---- in any bare item

-- what is in front of an ASCII byte is UTF-8
utf8_front : (s z : List ℕ) (m : ℕ) → m < 128 → IsUtf8 (s ++ m ∷ z) → IsUtf8 s
utf8_front s z m l u =
    let bs : List ℕ = s ++ m ∷ z in
    let here = get_or-append_seam s m z 0 in
    subst IsUtf8 (take_at s (m ∷ z) (length s) refl) (IsUtf8-take _ _ u (IsCharBoundary-before_ascii _ _
    (omega (arith, length-append s (m ∷ z))) (omega (arith, here, l))))

-- where m stands, but not first, the bytes of run can stand
module _ (version : Version) (m : ℕ) (run : List ℕ) (in_string : is_plain_in_string m ≡ true)
    (in_display : is_plain_in_display m ≡ true) (no_hexadecimal : is_lower_hexadecimal m ≡ false)
    (no_number : is_number_byte m ≡ false) (no_bytes : is_bytes_byte m ≡ false)
    (run_string : RunOf is_plain_in_string run) (run_display : RunOf is_plain_in_display run)
    (run_token : is_token_inner m ≡ true → RunOf is_token_inner run) where
  -- some bare item begins so
  abbrev Begins : List ℕ → Type 0
  Begins t = (w : BareValue) × (more : List ℕ) × IsBareText version w (t ++ more)

  no_quote : m ≡ double_quote → ⊥
  no_quote e = differ is_plain_in_string m double_quote in_string refl e

  in_number : (x c : List ℕ) → RunOf is_number_byte (x ++ m ∷ c) → ⊥
  in_number x c h = both_ways (is_number_byte m) no_number (run_holds is_number_byte x m c h)

  in_string_end : (s x c : List ℕ) → IsStringEnd s (x ++ m ∷ c)
      → (w : List ℕ) × IsStringEnd w (x ++ run ++ double_quote ∷ [])
  in_string_end s x c h =
      let p = part _ _ no_quote (after_string _ in_string) _ _ _ _ h.first
      (ap (λ (l : List ℕ). h.front ++ l) (sym h.second) ∙ sym h.text) in (
        p.front ++ run,
        parted _ _ _ refl (joining_append _ _ _ _ _ p.text (joining_run _ _ (λ c e. inl (e, refl)) _ run_string)) refl,
      )

  in_display_end : (s x c : List ℕ) → IsDisplayEnd s (x ++ m ∷ c)
      → (w : List ℕ) × IsDisplayEnd w (x ++ run ++ double_quote ∷ [])
  in_display_end s x c h =
      let p = part _ _ no_quote (after_display _ in_display no_hexadecimal) _ _ _ _ h.first.0
      (ap (λ (l : List ℕ). h.front ++ l) (sym h.second) ∙ sym h.text) in
      let byte = and_parts _ _ in_display in
      let ascii : m < 128 = omega (arith, leb-true m 0x7e (and_parts _ _ byte.0).1) in
      let text : IsUtf8 p.front = utf8_front _ _ _ ascii (subst IsUtf8 p.all h.first.1) in (
        p.front ++ run,
        parted _ _ _ refl (
          joining_append _ _ _ _ _ p.text (joining_run _ _ (λ c e. inl (e, refl)) _ run_display),
          IsUtf8-append _ _ text (plain_utf8 _ run_display),
        ) refl,
      )

  inside : (v : BareValue) (b : ℕ) (x c : List ℕ) → IsBareText version v (b ∷ (x ++ m ∷ c)) → Begins (b ∷ (x ++ run))
  inside (integer z) b x c h = absurd (in_number (b ∷ x) c (integer_run z (b ∷ (x ++ m ∷ c)) h))
  inside (decimal z) b x c h = absurd (in_number (b ∷ x) c (decimal_run z (b ∷ (x ++ m ∷ c)) h))
  inside (string s) b x c h =
      let text : b ∷ (x ++ m ∷ c) ≡ double_quote ∷ h.back = h.text ∙ ap (λ (l : List ℕ). l ++ h.back) h.first in
      let rest : h.back ≡ x ++ m ∷ c = cc in
      let w = in_string_end s x c (subst (IsStringEnd s) rest h.second) in (
        string w.0,
        double_quote ∷ [],
        parted {Q = IsStringEnd w.0} (codes "\"") (x ++ run ++ codes "\"") _ (cc) refl w.1,
      )
  inside (token s) b x c h =
      let all = subst (λ (s : List ℕ). IsTrue (is_token s)) (sym h.1) h.0 in
      let p = and_parts _ _ all in
      let word : RunOf is_token_inner (x ++ run) = list_all-append is_token_inner x run ∙ and_from _ _
      (run_parts is_token_inner x (m ∷ c) p.1).0 (run_token (run_holds is_token_inner x m c p.1)) in (
        token (b ∷ (x ++ run)),
        [],
        (and_from _ _ p.0 word, append-nil (b ∷ (x ++ run))),
      )
  inside (byte_sequence s) b x c h =
      let text : b ∷ (x ++ m ∷ c) ≡ colon ∷ h.back = h.text ∙ ap (λ (l : List ℕ). l ++ h.back) h.first in
      let rest : h.back ≡ x ++ m ∷ c = cc in
      absurd (both_ways (is_bytes_byte m) no_bytes
      (run_holds is_bytes_byte x m c (subst (RunOf is_bytes_byte) rest (bytes_run s h.back h.second))))
  inside (boolean true) b x c h = let rest : codes "1" ≡ x ++ m ∷ c = cc in
      absurd (in_number x c (subst (RunOf is_number_byte) rest refl))
  inside (boolean false) b x c h = let rest : codes "0" ≡ x ++ m ∷ c = cc in
      absurd (in_number x c (subst (RunOf is_number_byte) rest refl))
  inside (date z) b x c h =
      let d = h.1 in
      let text : b ∷ (x ++ m ∷ c) ≡ at_sign ∷ d.back = d.text ∙ ap (λ (l : List ℕ). l ++ d.back) d.first in
      let rest : d.back ≡ x ++ m ∷ c = cc in
      absurd (in_number x c (subst (RunOf is_number_byte) rest (integer_run z d.back d.second)))
  inside (display_string s) b [] c h =
      let d = h.1 in
      let text = d.text ∙ ap (λ (l : List ℕ). l ++ d.back) d.first in
      let same : m ≡ double_quote = cc in
      absurd (no_quote same)
  inside (display_string s) b (a ∷ x) c h =
      let d = h.1 in
      let text = d.text ∙ ap (λ (l : List ℕ). l ++ d.back) d.first in
      let rest : d.back ≡ x ++ m ∷ c = cc in
      let w = in_display_end s x c (subst (IsDisplayEnd s) rest d.second) in (
        display_string w.0,
        double_quote ∷ [],
        (h.0, parted {Q = IsDisplayEnd w.0} (codes "%\"") (x ++ run ++ codes "\"") _ (cc) refl w.1),
      )

pub mark_inside : MarkInside
unfolding is_symbol
mark_inside version v b x c h = inside version question_mark (codes "((") refl refl refl refl refl refl refl
    (λ e. absurd (true≢false (sym e))) v b x c h

pub asterisk_inside : AsteriskInside
unfolding is_symbol
asterisk_inside version v [] c h = (
  integer (signed false (place_value (codes "1"))),
  [],
  record {
    negative = false;
    digits = codes "1";
    counted = (omega arith, omega arith, refl);
    text = refl;
    value = refl;
  },
)
asterisk_inside version v (b ∷ x) c h = inside _ _ _ refl refl refl refl refl refl refl (λ _. refl) _ _ _ _ h
