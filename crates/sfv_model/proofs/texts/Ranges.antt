-- Parts of an input, and runs of bytes in it.
pub use Rattle.sfv_spec.proofs.Printable.{run_weaker}
use Rattle.std.proofs.Common.{◌≡◌, ℕ, zero, suc, ◌<◌, ◌≤◌, ◌+◌, ◌-◌, List, [], ◌∷◌, ◌++◌, length, drop}
use Rattle.std.proofs.Common.{take-append-drop, arith, IsUtf8, slice_index, slice_range, IsAscii, leb-true, drop-drop}
use Rattle.std.specs.List.{list_all}
use Rattle.std.proofs.lemmas.{Bool.and_parts, List.drop_more, Str.IsUtf8-from_ascii}
use Rattle.sfv_spec.specs.{Classes.is_string_byte, Texts.RunOf}

-- ---- parts of an input

-- the byte at a place, and what follows it
pub byte_at : (input : List ℕ) (at : ℕ) → at < length input → drop at input ≡ slice_index input at ∷ drop (at + 1) input
byte_at input at l = drop_more input at 0 l

pub range_at : (input : List ℕ) (from to : ℕ) → from ≤ to → drop from input ≡ slice_range input from to ++ drop to input
range_at input from to l =
    let e : from + (to - from) ≡ to = omega arith in
    cc (take-append-drop (to - from) (drop from input), drop-drop (to - from) from input)

-- ---- runs

string_ascii : (run : List ℕ) → RunOf is_string_byte run → IsAscii run
string_ascii [] h i = omega arith
string_ascii (c ∷ run) h zero = let a = and_parts (is_string_byte c) (list_all is_string_byte run) h in
    omega (arith, leb-true c 0x7e (and_parts _ _ a.0).1)
string_ascii (c ∷ run) h (suc i) = string_ascii run (and_parts (is_string_byte c) (list_all is_string_byte run) h).1 i

-- a run of bytes of a string is UTF-8
pub string_utf8 : (run : List ℕ) → RunOf is_string_byte run → IsUtf8 run
string_utf8 run h = IsUtf8-from_ascii run (string_ascii run h)
