-- Each rule of the table of faults is given by the reader of bare items, but for the trailing comma.
use Rattle.std.proofs.Common.{◌≡◌, ℕ, true, List, ◌∷◌, ◌++◌, length, Err, refl, ap, ◌∙◌, suc, ◌≤◌, append_assoc, arith}
use Rattle.std.{proofs.Common.{inl, inr, codes, eq-eqb, length-append, length-drop}, specs.List.concat}
use Rattle.sfv_spec.specs.Faults.{RuledItemFault, bare, comma, point, decimal_date, long_decimal_date, open_bytes}
use Rattle.sfv_spec.specs.{Faults.{lone_symbol, display}, Values.display_string}
use Rattle.sfv_spec.proofs.Marks.{double_quote, percent_sign, colon, dot}
use Rattle.sfv_model.specs.{Bare.bare_at, BareFaults.RuledIsGiven, Content.{valid_from, fault_place, HasNoColon}}
use Rattle.sfv_model.specs.Reader.{give, and_then, by_rule}
use Rattle.sfv_model.proofs.{Types.{Version, ErrorKind}, base64.Lone.{is_left_over, symbols_of_run, leaves_one_over}}
use Rattle.sfv_model.proofs.{complete.Bare.bare_percent, faults.BareFaultIsRow.{quoted_read, display_short}}
use Rattle.sfv_model.proofs.faults.BareRowIsFault.{date_given, signed_given, bytes_given}
use Rattle.sfv_model.proofs.faults.{ByteSequences.no_colon_any, DisplayRuleIsFault.faults_ruled}
use Rattle.sfv_model.proofs.faults.NumberShapes.{no_fraction, long_fraction, a_decimal, shape_read}
use Rattle.sfv_model.proofs.faults.{Quoted.display_faulty, TrailingCommas.has_many}
use Rattle.sfv_model.proofs.sound.ByteSequences.{read_unclosed, read_fault, symbols_apart}

item_given : (version : Version) (s there : List ℕ) (k : ErrorKind) → RuledItemFault version s there k
    → (bare_at version s ≡ Err (by_rule k there)) × (length there ≤ length s)
unfolding give
item_given version s there _ (point sign digits rest signed counted text left no_digit) = (
  rw left (signed_given version s sign digits (dot ∷ rest) _ signed counted.0 counted.2
      (text ∙ append_assoc (sign ++ digits) (codes ".") rest) (no_fraction signed.1 digits rest refl counted no_digit)),
  omega (arith, ap (length {A = ℕ}) text, ap (length {A = ℕ}) left, length-append {A = ℕ}),
)
item_given version s there _ (decimal_date z number rest known is_decimal text left no_digit) = (
  rw (left, text) (date_given _ _ _ known (shape_read _ _ _ (a_decimal _ _ _ is_decimal refl no_digit))),
  omega (arith, ap (length {A = ℕ}) left),
)
item_given version s there _ (long_decimal_date negative whole fraction known counted three text more) = (
  signed_given _ _ _ _ _ _ (true, negative, λ _. known, refl) counted.0 counted.2 (text ∙ simp append_assoc)
      (long_fraction _ _ _ _ refl counted three more),
  omega (arith, simp length-append at (ap (length {A = ℕ}) text)),
)
item_given version s there _ (open_bytes rest text left no_colon) = (
  rw (text, left) (bytes_given version rest _ (read_unclosed rest (no_colon_any rest no_colon))),
  omega (arith, ap (length {A = ℕ}) left),
)
item_given version s there _ (lone_symbol content rest text left only one) =
    let inside : List ℕ = content ++ colon ∷ rest in
    let none = is_left_over content only one in
    let all = eq-eqb (valid_from 0 content) (length content) ((leaves_one_over content none.0).1 (only, one)) in
    let apart : HasNoColon content = symbols_apart content (symbols_of_run content only) in
    let same : s ≡ colon ∷ inside = text ∙ simp append_assoc in
    let next : length content ≡ suc (fault_place content) = omega (arith, none.1) in (
      rw (left, next, same) (bytes_given version inside _ (read_fault content rest apart none.0 ∙ rw all refl)),
      omega (arith, ap (length {A = ℕ}) left, length-drop (length content) s),
    )
item_given version s there k (display rest bytes pieces known text content longest fault) =
    let inside : List ℕ = concat pieces ++ rest in
    let f = faults_ruled _ _ _ _ _ content longest fault in (
      ap (bare_at version) text ∙ ap (λ e. bare_at e (percent_sign ∷ double_quote ∷ inside)) known ∙ bare_percent _ _
          ∙ quoted_read _ ∙ ap (λ a. and_then a (λ s. give (display_string s))) (display_faulty _ _ _ f),
      omega (arith, ap (length {A = ℕ}) text, display_short inside there k f),
    )

pub ruled_is_given : RuledIsGiven
ruled_is_given version kind whole _ _ (comma before whitespace raw other h has text blank) = inl (
  refl,
  record {
    many = has_many kind other;
    before = before;
    whitespace = whitespace;
    raw = raw;
    text = text;
    blank = blank;
    accepted = h;
    member = has;
    here = refl;
  },
)
ruled_is_given version kind whole k _ (bare before s there text wanted h) =
    let g = item_given version s there k h in
    inr (record {
      before = before;
      s = s;
      place = record { text = text; wanted = wanted };
      fault = by_rule k there;
      given = g.0;
      kind = refl;
      exact = refl;
      here = omega (arith, ap (length {A = ℕ}) text, length-append before s, g.1);
    })
