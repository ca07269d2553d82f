-- The rows of the tables of classes, and the classes as bits of a row.
use Rattle.std.proofs.Common.{◌≡◌, ℕ, ◌<◌, Bool, true, not, eqb, List, get_or, bit_and, refl, eqb-true}
use Rattle.std.proofs.lemmas.Bool.{agree_below, agree_below_at}
use Rattle.sfv_spec.specs.Classes.{is_string_byte, is_token_start, is_token_inner, is_key_start, is_key_inner}
use Rattle.sfv_spec.specs.{Classes.is_lower_hexadecimal, Strings.is_plain_in_display}
use Rattle.sfv_spec.proofs.Marks.{is_plain_in_string, is_symbol}
use Rattle.sfv_base.specs.{Digits.digit_row, Rows.{class_sum, run_class_sum}}
use Rattle.sfv_base.specs.declared.{runs.TheConstants.RUN_CLASSES, utils.TheConstants.{CLASSES, DIGITS}}

-- the rows of a table are the values of a function, which is computed
abbrev rows_are : (ℕ → ℕ) → List ℕ → Bool
rows_are row table = agree_below (λ b. eqb (get_or table b 0) (row b)) (λ _. true) 256

row_at : (row : ℕ → ℕ) (table : List ℕ) (b : ℕ) → b < 256 → rows_are row table ≡ true → get_or table b 0 ≡ row b
row_at row table b lt all = eqb-true _ _ (agree_below_at (λ k. eqb (get_or table k 0) (row k)) (λ _. true) 256 b all lt)

pub classes_at : (b : ℕ) → b < 256 → rows_are class_sum CLASSES ≡ true → get_or CLASSES b 0 ≡ class_sum b
classes_at = row_at class_sum CLASSES

pub digits_at : (b : ℕ) → b < 256 → rows_are digit_row DIGITS ≡ true → get_or DIGITS b 0 ≡ digit_row b
digits_at = row_at digit_row DIGITS

pub run_classes_at : (b : ℕ) → b < 256 → rows_are run_class_sum RUN_CLASSES ≡ true
    → get_or RUN_CLASSES b 0 ≡ run_class_sum b
run_classes_at = row_at run_class_sum RUN_CLASSES

-- whether the row has the bit
abbrev has_bit : ℕ → ℕ → Bool
has_bit bit row = not (eqb (bit_and row bit) 0)

-- a class that has the bytes whose rows have the bit, which is computed
class_is : (bit : ℕ) (sum : ℕ → ℕ) (class : ℕ → Bool) → agree_below (λ c. has_bit bit (sum c)) class 256 ≡ true
    → (byte row : ℕ) → byte < 256 → row ≡ sum byte → has_bit bit row ≡ class byte
class_is bit sum class all byte row lt is = rw is (agree_below_at (λ c. has_bit bit (sum c)) class 256 byte all lt)

pub string_bit : (byte row : ℕ) → byte < 256 → row ≡ class_sum byte → has_bit 1 row ≡ is_string_byte byte
string_bit = class_is 1 class_sum is_string_byte refl

pub token_start_bit : (byte row : ℕ) → byte < 256 → row ≡ class_sum byte → has_bit 2 row ≡ is_token_start byte
token_start_bit = class_is 2 class_sum is_token_start refl

pub token_inner_bit : (byte row : ℕ) → byte < 256 → row ≡ class_sum byte → has_bit 4 row ≡ is_token_inner byte
token_inner_bit = class_is 4 class_sum is_token_inner refl

pub key_start_bit : (byte row : ℕ) → byte < 256 → row ≡ class_sum byte → has_bit 8 row ≡ is_key_start byte
key_start_bit = class_is 8 class_sum is_key_start refl

pub key_inner_bit : (byte row : ℕ) → byte < 256 → row ≡ class_sum byte → has_bit 16 row ≡ is_key_inner byte
key_inner_bit = class_is 16 class_sum is_key_inner refl

pub hexadecimal_bit : (byte row : ℕ) → byte < 256 → row ≡ class_sum byte → has_bit 32 row ≡ is_lower_hexadecimal byte
hexadecimal_bit = class_is 32 class_sum is_lower_hexadecimal refl

pub ruleset class_bits = (
  string_bit,
  token_start_bit,
  token_inner_bit,
  key_start_bit,
  key_inner_bit,
  hexadecimal_bit,
)

pub plain_in_string_bit : (byte row : ℕ) → byte < 256 → row ≡ run_class_sum byte
    → has_bit 1 row ≡ is_plain_in_string byte
unfolding is_symbol
plain_in_string_bit = class_is 1 run_class_sum is_plain_in_string refl

pub plain_in_display_bit : (byte row : ℕ) → byte < 256 → row ≡ run_class_sum byte
    → has_bit 2 row ≡ is_plain_in_display byte
unfolding is_symbol
plain_in_display_bit = class_is 2 run_class_sum is_plain_in_display refl

pub symbol_bit : (byte row : ℕ) → byte < 256 → row ≡ run_class_sum byte → has_bit 4 row ≡ is_symbol byte
unfolding is_symbol
symbol_bit = class_is 4 run_class_sum is_symbol refl

pub ruleset run_class_bits = (
  plain_in_string_bit,
  plain_in_display_bit,
  symbol_bit,
)
