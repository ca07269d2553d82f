-- The values of symbols, in the table of an engine.
use Rattle.std.proofs.Common.{◌≡◌, ℕ, ◌<◌, true, false, List, refl, sym, ◌∙◌, ap, arith, slice_index, inl, inr, ◌==◌}
use Rattle.std.proofs.{Common.{eq-eqb, ne_eqb, ltb-true, lt-ltb}, lemmas.Bool.both_ways}
use Rattle.base64.{specs.Tables.is_inverse, proofs.Tables.{decode-encode_table, encode-decode_table}}
use Rattle.sfv_spec.{specs.Base64.symbols, proofs.Marks.is_symbol}
use Rattle.sfv_model.{specs.Content.symbol_value, proofs.base64.Shape.{symbol-value, value_within, symbol-is_symbol}}

-- the table of an engine with the standard alphabet
pub record IsTable (dec : List ℕ) : Type 0 where
  pub inverse : is_inverse symbols dec ≡ true
  pub padding : slice_index dec 61 ≡ 255

-- What the decoder tests of a symbol, and its value.
pub record IsSymbol (dec : List ℕ) (c : ℕ) : Type 0 where
  pub value : slice_index dec c ≡ symbol_value c
  pub found : (slice_index dec c == 255) ≡ false
  pub other : (c == 61) ≡ false

pub symbol_of : (dec : List ℕ) (c : ℕ) → IsTable dec → is_symbol c ≡ true → IsSymbol dec c
unfolding is_symbol
symbol_of dec c table h =
    let small : symbol_value c < 64 = ltb-true (symbol_value c) 64 (value_within c h) in
    let same : slice_index dec c ≡ symbol_value c =
    ap (slice_index dec) (sym (symbol-value c h)) ∙ decode-encode_table symbols dec table.inverse (symbol_value c) small in
    record {
      value = same;
      found = ne_eqb _ 255 (λ e. absurd (omega (arith, e, same, small)));
      other = ne_eqb c 61 (λ e. both_ways (is_symbol 61) refl (rw e at h));
    }

-- a byte that is no symbol
pub no_symbol : (dec : List ℕ) (c : ℕ) → IsTable dec → c < 256 → is_symbol c ≡ false → (slice_index dec c == 255) ≡ true
no_symbol dec c table byte none = elim (encode-decode_table symbols dec table.inverse c byte) [
  | inl bad ↦ eq-eqb (slice_index dec c) 255 bad
  | inr good ↦
      let is = symbol-is_symbol (slice_index dec c) (lt-ltb (slice_index dec c) 64 good.0) in
      absurd (both_ways (is_symbol c) none (rw good.1 at is))
]
