-- Room for what is added to a text.
use Rattle.std.proofs.Common.{◌≡◌, ◌<◌, ◌≤◌, ◌+◌, ℕ, Bool, true, false, cond, List, [], ◌∷◌, ◌++◌, length, string_bytes}
use Rattle.std.proofs.Common.{string_len, string_capacity, ap, sym, arith, refl, Result, Ok, Err, flat_map, append-nil}
use Rattle.std.proofs.Common.{length-append}
use Rattle.std.{specs.List.list_all, specs.declared.string.String.String, proofs.lemmas.Bool.and_parts}
use Rattle.sfv_spec.specs.{Strings.{is_escaped_in_string, is_plain_in_display}, Texts.RunOf}
use Rattle.sfv_writer.{specs.Quoted.piece_of, specs.Written.{LacksRoom, AsksForRoom}, proofs.Written.IsWrittenUpTo}

-- how long a text is
pub len_of : {Z : Type 0} (s : String Z) → string_len s ≡ length (string_bytes s)
len_of s = s.bytes.ok.0

-- where there is no room after a text that was added, there is none for both
pub room_after : {Z : Type 0} (old mid : String Z) (text more : List ℕ) → string_bytes mid ≡ string_bytes old ++ text
    → string_capacity old ≤ string_capacity mid → LacksRoom mid more → LacksRoom old (text ++ more)
room_after old mid text more e c h =
    omega (
      arith,
      len_of old,
      len_of mid,
      ap (length {A = ℕ}) e,
      length-append (string_bytes old) text,
      length-append text more,
      c,
      h,
    )

-- where there is none for a part, there is none for the whole
pub room_before : {Z : Type 0} (old : String Z) (text more : List ℕ) → LacksRoom old text → LacksRoom old (text ++ more)
room_before old text more h = omega (arith, length-append text more, h)

pub room_shorter : {Z : Type 0} (old : String Z) (text more : List ℕ) → length text ≤ length more → LacksRoom old text
    → LacksRoom old more
room_shorter old text more short h = omega (arith, short, h)

-- an error is returned where it lacks
pub refused : {Z T E : Type 0} (old new : String Z) (text : List ℕ) (r : Result T E)
    → string_capacity old ≤ string_capacity new → LacksRoom old text → AsksForRoom old new text r
refused old new text (Ok x) c h = (c, tt)
refused old new text (Err x) c h = (c, h)

-- a run of bytes that are written for themselves
pub run_itself : (piece : ℕ → List ℕ) (plain : ℕ → Bool) → ((c : ℕ) → plain c ≡ true → piece c ≡ c ∷ [])
    → (run : List ℕ) → RunOf plain run → flat_map piece run ≡ run
run_itself piece plain itself [] h = refl
run_itself piece plain itself (c ∷ run) h = let a = and_parts (plain c) (list_all plain run) h in
    rw (itself c a.0, run_itself piece plain itself run a.1) refl

flat_map_len : (f : ℕ → List ℕ) (xs ys : List ℕ)
    → length (flat_map f (xs ++ ys)) ≡ length (flat_map f xs) + length (flat_map f ys)
flat_map_len f [] ys = omega arith
flat_map_len f (x ∷ xs) ys =
    omega (arith, length-append (f x) (flat_map f (xs ++ ys)), length-append (f x) (flat_map f xs), flat_map_len f xs ys)

-- where there is none for some of what is written in quotes, there is none for all of it
pub room_inside : {Z : Type 0} (piece : ℕ → List ℕ) (old output : String Z) (bytes rest run after : List ℕ)
    → IsWrittenUpTo piece (string_bytes old) bytes rest (string_bytes output) → rest ≡ run ++ after
    → string_capacity old ≤ string_capacity output → LacksRoom output (flat_map piece run)
    → LacksRoom old (flat_map piece bytes)
room_inside piece old output bytes rest run after w e c h =
    rw (w.whole, e) (omega (
      arith,
      len_of old,
      len_of output,
      ap (length {A = ℕ}) w.done,
      length-append (string_bytes old) (flat_map piece w.front),
      flat_map_len piece w.front (run ++ after),
      flat_map_len piece run after,
      c,
      h,
    ))

-- the same of the rest, which a call writes
pub rest_room : {Z T E : Type 0} (piece : ℕ → List ℕ) (old output new : String Z) (bytes rest : List ℕ)
    (r : Result T E) → IsWrittenUpTo piece (string_bytes old) bytes rest (string_bytes output)
    → string_capacity old ≤ string_capacity output → AsksForRoom output new (flat_map piece rest) r
    → AsksForRoom old new (flat_map piece bytes) r
rest_room piece old output new bytes rest (Ok x) w c h = (omega (arith, c, h.0), tt)
rest_room piece old output new bytes rest (Err x) w c h = (
  omega (arith, c, h.0),
  room_inside piece old output bytes rest rest [] w (sym (append-nil rest)) c h.1,
)

-- the text in quotes has no fewer bytes than the value
some_of : (b : Bool) (x y : List ℕ) → 0 < length x → 0 < length y → 0 < length (cond b x y)
some_of true x y h k = h
some_of false x y h k = k

some_piece : (display : Bool) (c : ℕ) → 0 < length (piece_of display c)
some_piece true c = some_of (is_plain_in_display c) _ _ (omega arith) (omega arith)
some_piece false c = some_of (is_escaped_in_string c) _ _ (omega arith) (omega arith)

pub inside_len : (display : Bool) (bytes : List ℕ) → length bytes ≤ length (flat_map (piece_of display) bytes)
inside_len display [] = omega arith
inside_len display (c ∷ bytes) = omega (
  arith,
  some_piece display c,
  inside_len display bytes,
  length-append (piece_of display c) (flat_map (piece_of display) bytes),
)
