-- Each row of the table of faults is given by the reader of bare items.
use Rattle.std.proofs.Common.{◌≡◌, ℕ, suc, ◌+◌, ◌≤◌, Bool, true, false, not, ◌||◌, List, [], ◌∷◌, ◌++◌, length, drop}
use Rattle.std.proofs.Common.{Err, refl, sym, ap, ◌∙◌, append_assoc, arith, ◌==◌, codes, true≢false, ne_eqb}
use Rattle.std.proofs.lemmas.Bool.{or_parts, not-true, not_from_false}
use Rattle.sfv_spec.specs.Classes.{is_string_byte}
use Rattle.sfv_spec.specs.Faults.{BareItemFault, no_boolean, old_date, old_display, no_quote, no_digit, no_number}
use Rattle.sfv_spec.specs.Faults.{IsNumberSign, OpensString, long_integer, late_point, long_decimal, open_string}
use Rattle.sfv_spec.specs.Faults.{wrong_string_byte, open_string_escape, wrong_string_escape, wrong_bytes}
use Rattle.sfv_spec.specs.{Strings.is_escaped_in_string, Texts.{begins_with, RunOf}, Values.{BareValue, byte_sequence}}
use Rattle.sfv_spec.proofs.Marks.{colon, backslash, minus_sign, dot, at_sign, is_digit, minus_text, at_text}
use Rattle.sfv_spec.proofs.Versions.{one_longest}
use Rattle.sfv_model.specs.Bare.{is_number_start, number_at, date_at, quoted_at, as_date, bare_at}
use Rattle.sfv_model.specs.{BareFaults.BareRowIsGiven, Content.{valid_from, fault_place, bytes_at}, Quoted.StringStops}
use Rattle.sfv_model.specs.Reader.{Fault, Answer, byte, give, fail, and_then, at_start, at_reach}
use Rattle.sfv_model.proofs.Types.{Version, Rfc8941, Rfc9651, ErrorKind, NonIntegerDate, ExpectedDigit}
use Rattle.sfv_model.proofs.{Types.InvalidByteSequence, base64.Contents.{longest_valid, rejected_at}}
use Rattle.sfv_model.proofs.complete.Bare.{bare_boolean, bare_quote, bare_colon, bare_at_sign, bare_percent, front}
use Rattle.sfv_model.proofs.complete.Bare.{number_from}
use Rattle.sfv_model.proofs.faults.{BareFaultIsRow.{boolean_fault, quote_fault}, NumberFaultIsRow.date_read}
use Rattle.sfv_model.proofs.faults.NumberShapes.{next_of, NumberShape, no_digits, sixteen_digits, point_too_late}
use Rattle.sfv_model.proofs.faults.{NumberShapes.{long_fraction, shape_read}, PiecesToFault.bind_met}
use Rattle.sfv_model.proofs.{faults.Quoted.{string_faulty, traced}, sound.ByteSequences.{read_fault, fault_at}}

-- ---- numbers and Dates

pub date_given : (version : Version) (t : List ℕ) (a : Answer BareValue) → version ≡ Rfc9651 → number_at true t ≡ a
    → bare_at version (at_sign ∷ t) ≡ at_start NonIntegerDate (at_sign ∷ t) (and_then a (λ v. give (as_date v)))
date_given version t a known read = ap (λ e. bare_at e (at_sign ∷ t)) known ∙ bare_at_sign Rfc9651 t ∙ date_read t
    ∙ ap (λ a. at_start NonIntegerDate (at_sign ∷ t) (and_then a (λ v. give (as_date v)))) read

pub number_given : (version : Version) (dated : Bool) (t : List ℕ) (e : Fault) → (dated ≡ true → version ≡ Rfc9651)
    → (dated ≡ false → begins_with is_number_start t ≡ true) → NumberShape dated t (Err e)
    → bare_at version (at_text dated ++ t) ≡ Err e
number_given version true t e known start h = date_given version t (Err e) (known refl) (shape_read true t (Err e) h)
number_given version false t e known start h = number_from version t (start refl) ∙ shape_read false t (Err e) h

-- a number or a Date with its sign and its first digits
pub signed_given : (version : Version) (s sign digits q : List ℕ) (e : Fault) (n : IsNumberSign version sign)
    → 1 ≤ length digits → RunOf is_digit digits → s ≡ sign ++ digits ++ q
    → NumberShape n.0 (minus_text n.1 ++ (digits ++ q)) (Err e) → bare_at version s ≡ Err e
signed_given version s sign digits q e (dated, negative, known, same) some each text h = ap (bare_at version)
    (rw same at text ∙ simp append_assoc) ∙ number_given _ _ _ _ known (λ _. front _ _ _ some each) h

begins_apart : (p q : ℕ → Bool) (t : List ℕ) → begins_with (λ c. p c || q c) t ≡ false
    → (begins_with p t ≡ false) × (begins_with q t ≡ false)
begins_apart p q [] h = (refl, refl)
begins_apart p q (c ∷ t) h = or_parts (p c) (q c) h

-- ---- Strings and Byte Sequences

string_given : (version : Version) (s left there : List ℕ) (k : ErrorKind) → OpensString s left
    → StringStops k left there → bare_at version s ≡ Err (at_reach k there)
string_given version s left there k (bytes, content, h, text) ends = ap (bare_at version) text ∙ bare_quote _ _
    ∙ bind_met _ _ _ _ (string_faulty _ _ _ (traced _ _ _ _ (ap (λ (l : List ℕ). l ++ left) h.text) h.each ends))

pub bytes_given : (version : Version) (t : List ℕ) (e : Fault) → bytes_at t ≡ Err e
    → bare_at version (colon ∷ t) ≡ Err e
bytes_given version t e h = bare_colon version t ∙ bind_met bytes_at (λ s. give (byte_sequence s)) t e h

-- ---- rows

row_read : (version : Version) (s there : List ℕ) (k : ErrorKind) → BareItemFault version s there k
    → bare_at version s ≡ Err (at_reach k there)
unfolding date_at quoted_at fail
row_read version s there _ (no_boolean text h) = rw text (bare_boolean version there ∙ boolean_fault there h)
row_read version s there _ (old_date rest known text same) = rw (same, known, text) (bare_at_sign Rfc8941 rest)
row_read version s there _ (old_display rest known text same) = rw (same, known, text) (bare_percent Rfc8941 rest)
row_read version s there _ (no_quote known text h) = rw (known, text) (bare_percent Rfc9651 there ∙ quote_fault there h)
row_read version s there _ (no_digit dated known text h) = ap (bare_at version) (text ∙ append_assoc (at_text dated)
    (codes "-") there) ∙ number_given version dated (minus_sign ∷ there) (at_reach ExpectedDigit there) known
    (λ _. refl) (no_digits true there refl h (λ e. absurd (true≢false e)))
row_read version s there _ (no_number known text h) =
    let n = begins_apart is_digit (byte minus_sign) there h in
    ap (bare_at version) text ∙ number_given version true there (at_reach ExpectedDigit there) (λ _. known)
    (λ e. absurd (true≢false e)) (no_digits false there refl n.0 (λ _. n.1))
row_read version s there _ (long_integer sign digits signed counted text h) = signed_given version s sign digits there _
    signed (omega (arith, counted.0)) counted.2 text (sixteen_digits signed.1 digits there refl counted h)
row_read version s there _ (late_point sign digits signed counted text h) = signed_given version s sign digits there _
    signed (omega (arith, counted.0)) counted.2 text (point_too_late signed.1 digits there refl counted h)
row_read version s there _ (long_decimal negative whole fraction counted three text h) = signed_given version s
    (minus_text negative) whole (dot ∷ (fraction ++ there)) _ (false, negative, λ e. absurd (true≢false (sym e)), refl)
    counted.0 counted.2 (text ∙ simp append_assoc) (long_fraction negative whole fraction there refl counted three h)
row_read version s there _ (open_string opened end) = string_given version s [] there _ opened (refl, end)
row_read version s there _ (wrong_string_byte opened wrong) =
    let n = next_of (λ c. not (is_string_byte c)) there wrong in
    string_given version s there there _ opened (n.c, n.rest, n.text, n.text, not-true (is_string_byte n.c) n.is)
row_read version s there _ (open_string_escape opened end) =
    string_given version s (codes "\\") there _ opened (refl, end)
row_read version s there _ (wrong_string_escape opened wrong) =
    let n = next_of (λ c. not (is_escaped_in_string c)) there wrong in
    string_given version s (codes "\\" ++ there) there _ opened (
      n.c,
      n.rest,
      ap (λ (l : List ℕ). backslash ∷ l) n.text,
      n.text,
      not-true (is_escaped_in_string n.c) n.is,
    )
row_read version s there _ (wrong_bytes content rest valid apart longest less text same) =
    let here = one_longest longest (longest_valid content) in
    let rejected = rejected_at content (valid_from 0 content) refl (omega (arith, less, here)) in
    let short = ne_eqb (valid_from 0 content) (length content) (λ e. omega (arith, less, here, e)) in
    let at = fault_at content (not_from_false (valid_from 0 content == length content) short) in
    let t : List ℕ = content ++ colon ∷ rest in
    let all : s ≡ colon ∷ t = text ∙ simp append_assoc in
    let next : 1 + valid ≡ suc (fault_place content) = omega (arith, here, at.1) in
    let rest_here : drop (fault_place content) t ≡ there = sym (same ∙ rw (next, all) refl) in
    ap (bare_at version) all ∙ bytes_given version t (at_reach InvalidByteSequence there)
    (read_fault content rest apart rejected.0 ∙ rw (short, rest_here) refl)

pub bare_row_is_given : BareRowIsGiven
bare_row_is_given version s there k h = (at_reach k there, row_read version s there k h, refl, refl, refl)
