-- The steps over the inside of a String in an input.
use Rattle.std.proofs.Common.{arith, ◌≡◌, ℕ, true, false, not, List, [], ◌∷◌, Ok, refl, subst, inl, inr, IsUtf8}
use Rattle.std.specs.List.{AllZip, list_all}
use Rattle.std.proofs.lemmas.Bool.{and_parts, and_from, Decides.nat_tests}
use Rattle.sfv_spec.specs.{Classes.is_string_byte, Strings.{is_escaped_in_string, IsStringPiece}, Texts.RunOf}
use Rattle.sfv_spec.proofs.Marks.{is_plain_in_string}
use Rattle.sfv_model.specs.{Quoted.{string_from, StringStops, Traced}, Reader.Answer}
use Rattle.sfv_model.proofs.{quoted.Traces.{Ends, trace_of_string}, texts.Ranges.{run_weaker, string_utf8}}

-- the bytes of a plain run are of a string
pub plain_bytes : (run : List ℕ) → RunOf is_plain_in_string run → RunOf is_string_byte run
plain_bytes run h = run_weaker is_plain_in_string is_string_byte
    (λ c e. (and_parts (is_string_byte c) (not (is_escaped_in_string c)) e).0) run h

pub plain_utf8 : (run : List ℕ) → RunOf is_plain_in_string run → IsUtf8 run
plain_utf8 run h = string_utf8 run (plain_bytes run h)

-- the byte of a piece is of a string
pub piece_byte : (c : ℕ) (piece : List ℕ) → IsStringPiece c piece → is_string_byte c ≡ true
piece_byte c piece (inl h) = (and_parts (is_string_byte c) (not (is_escaped_in_string c)) h.0).0
piece_byte c piece (inr h) = grind (arith, nat_tests, h.0)

-- so are the bytes of a row of pieces
pub piece_bytes : (bytes : List ℕ) (pieces : List (List ℕ)) → AllZip IsStringPiece bytes pieces
    → RunOf is_string_byte bytes
piece_bytes [] pieces h = refl
piece_bytes (c ∷ bytes) [] h = absurd h
piece_bytes (c ∷ bytes) (p ∷ pieces) h = and_from (is_string_byte c) (list_all is_string_byte bytes)
    (piece_byte c p h.0) (piece_bytes bytes pieces h.1)

-- and those of a string that was read
pub read_bytes : (t bytes rest : List ℕ) → string_from false t ≡ Ok (bytes, rest) → RunOf is_string_byte bytes
read_bytes t bytes rest e =
    let h = subst (λ (a : Answer (List ℕ)). Traced IsStringPiece t (Ends true StringStops a)) e (trace_of_string t) in
    rw h.ends.0 (piece_bytes h.bytes h.pieces h.content)

pub read_utf8 : (t bytes rest : List ℕ) → string_from false t ≡ Ok (bytes, rest) → IsUtf8 bytes
read_utf8 t bytes rest e = string_utf8 bytes (read_bytes t bytes rest e)
