-- What `base64` decodes, and the contents of byte sequences.
use Rattle.std.proofs.Common.{◌≡◌, ℕ, ◌<◌, ◌≤◌, ◌+◌, ◌-◌, ◌*◌, ◌/◌, ◌%◌, true, false, List, [], ◌∷◌, ◌++◌, length, map}
use Rattle.std.proofs.Common.{take, drop, replicate, append_assoc, refl, sym, ◌∙◌, ap, subst, arith, inl, inr, ◌==◌}
use Rattle.std.proofs.Common.{◌↔◌, IfOk, IfErr, eqb-true, ne_eqb, length-append, length-drop, length-take-le}
use Rattle.std.{proofs.Common.{take-append-drop, get_or-drop}, specs.List.list_all}
use Rattle.std.specs.declared.option.Option.{Option, TheVariants.{None, Some}}
use Rattle.std.specs.declared.result.Result.{Result, TheVariants.{Ok, Err}}
use Rattle.std.proofs.lemmas.Bool.{cases_Bool, eqb-false, cases_lt}
use Rattle.std.proofs.lemmas.List.{length-replicate, length-map, map-append, take-append-le, drop-append-le}
use Rattle.std.proofs.lemmas.List.{nil_from_length, Folds.list_all-append}
use Rattle.base64.specs.Decode.{lone_error, groups_error, groups_bytes, scan_steps, decode_error, decoded_bytes}
use Rattle.base64.specs.Decode.{decode_outcome, groups_before_last}
use Rattle.base64.specs.GeneralPurpose.{IsBytes, IsDecodeFailure, decode_of}
use Rattle.base64.specs.declared.decode.DecodeAllocError.{DecodeAllocError}
use Rattle.base64.specs.declared.decode.DecodeAllocError.TheVariants.{DecodeError as Failed, OutOfMemory}
use Rattle.base64.specs.declared.{decode.DecodeError.DecodeError, engine.DecodePaddingMode.TheVariants.Indifferent}
use Rattle.base64.specs.declared.engine.general_purpose.GeneralPurpose.{GeneralPurpose}
use Rattle.base64.proofs.Tables.{are_tables_inverse, are_tables_padding}
use Rattle.sfv_spec.{specs.Base64.{IsBase64Text, symbol}, proofs.Marks.is_symbol}
use Rattle.sfv_model.specs.Content.{symbol_value, bytes_from, most_padding}
use Rattle.sfv_model.proofs.base64.{Contents.{one_meaning, counted, well_formed}, Shape.are_symbols}
use Rattle.sfv.proofs.reads.Coded.{all_parts, bytes_from-append}
use Rattle.sfv_base64.specs.Agreement.{HasNoBytes, IsLenient, ParsedAsDecoded}
use Rattle.sfv_base64.proofs.Accepted.{or_else_none, groups_symbols, last_symbols}
use Rattle.sfv_base64.proofs.{Groups.{groups, last}, Symbols.IsTable}

-- the decoding of a lenient engine, by its table
abbrev decoding : List ℕ → List ℕ → Result (List ℕ) DecodeError
decoding dec s = decode_outcome (decode_error dec 61 true Indifferent s) (decoded_bytes dec 61 s)

-- ---- symbols and padding are decoded

-- how the last group lies in symbols and padding
record LastGroup (n padding q : ℕ) : Type 0 where
  pub two : 4 * q + 2 ≤ n
  pub four : n ≤ 4 * q + 4
  pub few : padding ≤ most_padding (n - 4 * q)
  pub not_alone : ¬ ((n + padding) % 4 ≡ 1)

last_group : (n padding q : ℕ) → 0 < n → padding ≤ most_padding n → ¬ (n % 4 ≡ 1) → (n + padding - 1) / 4 ≡ q
    → LastGroup n padding q
last_group n padding q some most one is = elim (cases_Bool (n % 4 == 2)) [
  | inl y ↦
      let two : n % 4 ≡ 2 = eqb-true (n % 4) 2 y in
      let few : padding ≤ 2 = rw y at most in
      let same : (n - 4 * q) % 4 ≡ 2 = omega (arith, two, few, is, some) in
      record {
        two = omega (arith, two, few, is, some);
        four = omega (arith, two, few, is, some);
        few = rw same few;
        not_alone = λ e. absurd (omega (arith, two, few, e));
      }
  | inr y ↦ elim (cases_Bool (n % 4 == 3)) [
    | inl z ↦
        let three : n % 4 ≡ 3 = eqb-true (n % 4) 3 z in
        let few : padding ≤ 1 = rw (y, z) at most in
        let same : (n - 4 * q) % 4 ≡ 3 = omega (arith, three, few, is, some) in
        record {
          two = omega (arith, three, few, is, some);
          four = omega (arith, three, few, is, some);
          few = rw same few;
          not_alone = λ e. absurd (omega (arith, three, few, e));
        }
    | inr z ↦
        let few : padding ≤ 0 = rw (y, z) at most in
        let none : n % 4 ≡ 0 = omega (arith, eqb-false (n % 4) 2 y, eqb-false (n % 4) 3 z, one) in
        record {
          two = omega (arith, none, few, is, some);
          four = omega (arith, none, few, is, some);
          few = omega (arith, few);
          not_alone = λ e. absurd (omega (arith, none, few, e));
        }
  ]
]

some_decoded : (dec s run : List ℕ) (padding q : ℕ) → IsTable dec → s ≡ run ++ replicate padding 61
    → list_all is_symbol run ≡ true → 0 < length run → padding ≤ most_padding (length run) → ¬ (length run % 4 ≡ 1)
    → groups_before_last (length s) ≡ q → decoding dec s ≡ Ok (bytes_from (map symbol_value run))
some_decoded dec s run padding q table text h some most one is =
    let size : length s ≡ length run + padding = ap (length {A = ℕ}) text
    ∙ length-append run (replicate padding 61) ∙ ap (λ k. length run + k) (length-replicate padding 61) in
    let g = last_group (length run) padding q some most one (rw size at is) in
    let le : 4 * q ≤ length run = omega (arith, g.two) in
    let front : take (4 * q) s ≡ take (4 * q) run = ap (take {A = ℕ} (4 * q)) text
    ∙ take-append-le (4 * q) run (replicate padding 61) le in
    let back : drop (4 * q) s ≡ drop (4 * q) run ++ replicate padding 61 = ap (drop {A = ℕ} (4 * q)) text
    ∙ drop-append-le (4 * q) run (replicate padding 61) le in
    let both = all_parts (4 * q) run h in
    let begun = groups dec s q table (omega (arith, size, le)) (ap (list_all is_symbol) front ∙ both.0) in
    let left : length (drop (4 * q) run) ≡ length run - 4 * q = length-drop (4 * q) run in
    let few : padding ≤ most_padding (length (drop (4 * q) run)) = rw left g.few in
    let end = last dec (drop (4 * q) run) padding (4 * q) table both.1 (omega (arith, left, g.two))
    (omega (arith, left, g.four)) few in
    let lone : (length s % 4 == 1) ≡ false = ne_eqb (length s % 4) 1 (λ e. g.not_alone (rw size at e)) in
    let full : (length s == 0) ≡ false = ne_eqb (length s) 0 (λ e. absurd (omega (arith, e, size, some))) in
    let size4 : length (map symbol_value (take (4 * q) run)) ≡ 4 * q = length-map (take (4 * q) run) symbol_value
    ∙ length-take-le (4 * q) run le in
    let whole : length (map symbol_value (take (4 * q) run)) % 4 ≡ 0 = omega (arith, size4) in
    let bytes : bytes_from (map symbol_value (take (4 * q) run)) ++ bytes_from (map symbol_value (drop (4 * q) run))
    ≡ bytes_from (map symbol_value run) = sym (bytes_from-append (map symbol_value (take (4 * q) run)) (map symbol_value
    (drop (4 * q) run)) whole) ∙ ap bytes_from (sym (map-append symbol_value (take (4 * q) run) (drop (4 * q) run)))
    ∙ ap (λ (t : List ℕ). bytes_from (map symbol_value t)) (take-append-drop (4 * q) run) in
    rw (is, lone, begun.0, begun.1, full, back, end.0, end.1, front) (ap (λ (t : List ℕ). Ok t) bytes)

pub none_decoded : (dec : List ℕ) → decoding dec [] ≡ Ok []
unfolding groups_error groups_bytes scan_steps
none_decoded dec = refl

-- Symbols and padding.
record IsPadded (t : List ℕ) : Type 0 where
  pub run : List ℕ
  pub padding : ℕ
  pub text : t ≡ run ++ replicate padding 61
  pub each : list_all is_symbol run ≡ true
  pub few : padding ≤ most_padding (length run)
  pub not_alone : ¬ (length run % 4 ≡ 1)

padded_decoded : (dec t : List ℕ) (p : IsPadded t) → IsTable dec
    → decoding dec t ≡ Ok (bytes_from (map symbol_value p.run))
unfolding bytes_from
padded_decoded dec t p table = elim (cases_lt 0 (length p.run)) [
  | inl some ↦ some_decoded dec t p.run p.padding _ table p.text p.each some p.few p.not_alone refl
  | inr none ↦
      let empty : p.run ≡ [] = nil_from_length p.run (omega (arith, none)) in
      let bare : p.padding ≡ 0 = omega (arith, rw empty at p.few) in
      let nothing : t ≡ [] = p.text ∙ rw (empty, bare) refl in
      rw (nothing, empty) (none_decoded dec)
]

-- ---- what is decoded is symbols and padding

outcome_ok : (error : Option DecodeError) (bytes b : List ℕ) → decode_outcome error bytes ≡ Ok b → error ≡ None
outcome_ok None bytes b h = refl
outcome_ok (Some e) bytes b h = cc h

some_padded : (dec s : List ℕ) (q : ℕ) → IsTable dec → IsBytes s → 0 < length s → groups_before_last (length s) ≡ q
    → decode_error dec 61 true Indifferent s ≡ None → IsPadded s
some_padded dec s q table bytes some is none =
    let full : (length s == 0) ≡ false = ne_eqb (length s) 0 (λ e. absurd (omega (arith, e, some))) in
    let p = or_else_none (lone_error dec 61 s) _ (rw (is, full) at none) in
    let r = or_else_none (groups_error dec s q) _ p.1 in
    let front = groups_symbols dec s q table bytes (omega (arith, is, some)) r.0 in
    let left : length (drop (4 * q) s) ≡ length s - 4 * q = length-drop (4 * q) s in
    let l = last_symbols dec (drop (4 * q) s) (4 * q) table (λ i. rw (get_or-drop (4 * q) s i 0) (bytes (4 * q + i)))
    (omega (arith, left, is, some)) (omega (arith, left, is, some)) r.1 in
    let size : length (take (4 * q) s) ≡ 4 * q = length-take-le (4 * q) s (omega (arith, is, some)) in
    let all : length (take (4 * q) s ++ l.rest) ≡ 4 * q + length l.rest = length-append (take (4 * q) s) l.rest
    ∙ ap (λ k. k + length l.rest) size in
    let same : length (take (4 * q) s ++ l.rest) % 4 ≡ length l.rest % 4 = omega (arith, all) in
    record {
      run = take (4 * q) s ++ l.rest;
      padding = l.padding;
      text = sym (take-append-drop (4 * q) s) ∙ ap (λ (t : List ℕ). take (4 * q) s ++ t) l.text
          ∙ sym (append_assoc (take (4 * q) s) l.rest (replicate l.padding 61));
      each = list_all-append is_symbol (take (4 * q) s) l.rest ∙ rw (front, l.each) refl;
      few = rw same l.few;
      not_alone = λ e. absurd (omega (arith, same, e, l.two, l.four));
    }

decoded_padded : (dec s b : List ℕ) → IsTable dec → IsBytes s → decoding dec s ≡ Ok b → IsPadded s
decoded_padded dec [] b table bytes h = record {
  run = [];
  padding = 0;
  text = refl;
  each = refl;
  few = omega arith;
  not_alone = λ e. absurd (omega (arith, e));
}
decoded_padded dec (c ∷ s) b table bytes h =
    some_padded dec (c ∷ s) _ table bytes (omega arith) refl (outcome_ok _ _ b h)

-- ---- the contents of byte sequences

content_padded : (bytes t : List ℕ) → IsBase64Text bytes t → IsPadded t
content_padded bytes t h =
    let c = counted bytes t h in
    let size : length (map symbol h.values) ≡ length h.values = length-map h.values symbol in
    record {
      run = map symbol h.values;
      padding = h.padding;
      text = h.text;
      each = are_symbols h.values h.in_range.0;
      few = rw size c.1;
      not_alone = λ e. c.0 (rw size at e);
    }

padded_content : (t : List ℕ) (p : IsPadded t) → IsBase64Text (bytes_from (map symbol_value p.run)) t
padded_content t p = subst (λ (u : List ℕ). IsBase64Text (bytes_from (map symbol_value p.run)) u)
    (sym p.text) (well_formed p.run p.padding p.each p.few p.not_alone)

table_decodes : (dec t bytes : List ℕ) → IsTable dec → IsBytes t → IsBase64Text bytes t ↔ (decoding dec t ≡ Ok bytes)
table_decodes dec t bytes table are = (
  λ h.
      let p = content_padded bytes t h in
      padded_decoded dec t p table ∙ ap (λ (b : List ℕ). Ok b) (one_meaning _ bytes t (padded_content t p) h),
  λ e.
      let p = decoded_padded dec t bytes table are e in
      let same = sym (padded_decoded dec t p table) ∙ e in
      let is : bytes_from (map symbol_value p.run) ≡ bytes = cc same in
      subst (λ (b : List ℕ). IsBase64Text b t) is (padded_content t p),
)

pub parsed : ParsedAsDecoded
parsed engine lenient content bytes are =
    let table : IsTable engine.decode_table = record {
      inverse = rw lenient.alphabet at (are_tables_inverse engine.encode_table engine.decode_table engine.padding.value engine.tables);
      padding = rw lenient.padding at (are_tables_padding engine.encode_table engine.decode_table engine.padding.value engine.tables);
    } in
    rw (lenient.padding, lenient.config.1, lenient.config.2) (table_decodes engine.decode_table content bytes table are)

-- what the decoder returns
pub ok_parsed : {T : Type 0} (engine : GeneralPurpose) (content : List ℕ) (r : Result T DecodeAllocError)
    (items : T → List ℕ) → IsLenient engine → IsBytes content → IfOk r (λ v. decode_of engine content ≡ Ok (items v))
    → IfOk r (λ v. IsBase64Text (items v) content)
ok_parsed engine content (Ok v) items lenient are h = (parsed engine lenient content (items v) are).1 h
ok_parsed engine content (Err e) items lenient are h = tt

pub err_rejected : {T : Type 0} (engine : GeneralPurpose) (content : List ℕ) (r : Result T DecodeAllocError)
    → IsLenient engine → IsBytes content → IfErr r (IsDecodeFailure engine content) → IfErr r (HasNoBytes content)
err_rejected engine content (Ok v) lenient are h = tt
err_rejected engine content (Err (Failed d)) lenient are h = λ bytes is.
    let both = sym h ∙ (parsed engine lenient content bytes are).0 is in
    cc both
err_rejected engine content (Err OutOfMemory) lenient are h = tt
