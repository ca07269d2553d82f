-- Errors of functions that build trees: out of memory, or the fault of a reader.
use Rattle.std.proofs.Common.{◌≡◌, ℕ, ◌≤◌, List, [], ◌∷◌, length, Option, Some, None, Ok, Err, drop, refl, subst, inl}
use Rattle.std.proofs.Common.{inr, ◌⊎◌, MatchOption}
use Rattle.std.specs.{List.FoldsTo, Prelude.⊤, declared.alloc.Global.Global}
use Rattle.sfv_spec.{specs.Events.TreeEvent, proofs.Marks.{backslash, percent_sign, colon}}
use Rattle.sfv_model.specs.{Fields.read_field, Reader.{Answer, Fault, Reader, led_answer, led}}
use Rattle.sfv_base.specs.Errors.{out_of_memory}
use Rattle.sfv.specs.Memory.{HoldsMark, IsRefusal, NeedsMemory}
use Rattle.sfv.specs.{Parsers.IsParseError, Types.{ErrorKind, FieldKind, item_field, Version, Error}}
use Rattle.sfv.specs.declared.parser.{Parser.Parser, cursor.Cursor.Cursor}
use Rattle.sfv.specs.parser.Cursor.{kept, kept_input, kept_version, input, version, rest, MayNeedMemory, located}
use Rattle.sfv.specs.parser.{Cursor.{located_whole, IsFaultOf, IsErrorOf}, Trees.FailsAs}
use Rattle.sfv.proofs.Parsed.{parse_error, unnamed}

-- the loops of trees are those of a visitor that receives every event, and never fails
abbrev pub Any : Unit {0} → TreeEvent → Unit {0} → Type 0
Any s e t = ⊤

abbrev pub Never : Unit {0} → TreeEvent → Unit {0} → Type 0
Never s e fault = ⊥

pub any_run : (es : List TreeEvent) → FoldsTo Any tt es tt
any_run [] = refl
any_run (e ∷ es) = (tt, tt, any_run es)

-- where `a` fails, `b` fails with the same kind at the same place
abbrev pub FailsWith : {A B : Type 0} → Answer A → Answer B → Type 0
FailsWith a b = (k : ErrorKind) (q : List ℕ) → located a ≡ Err (k, q) → located b ≡ Err (k, q)

abbrev place : Fault → ErrorKind × List ℕ
place f = (f.kind, f.rest)

pub fault_of : {A : Type 0} (a : Answer A) (k : ErrorKind) (q : List ℕ) → located a ≡ Err (k, q)
    → (f : Fault) × (a ≡ Err f) × (place f ≡ (k, q))
fault_of (Ok x) k q h = absurd cc
fault_of (Err f) k q h =
    let there : ErrorKind × List ℕ = (k, q) in
    let same : place f ≡ there = cc in
    (f, refl, same)

pub led_fails : {A : Type 0} (es : List TreeEvent) (f : Reader A) (t : List ℕ) → FailsWith (f t) (led es f t)
unfolding led
led_fails {A} es f t = on (f t)
  where
    on : (a : Answer A) → FailsWith a (led_answer es a)
    on (Ok x) k q h = absurd cc
    on (Err f) k q h = h

pub fault_with : {A B : Type 0} (t : List ℕ) (e : Error) (a : Answer A) (b : Answer B) → FailsWith a b
    → IsFaultOf t e a → IsFaultOf t e b
fault_with t e a b carry = on e.index
  where
    on : (o : Option ℕ) → MatchOption o ⊥ (λ index. (located a ≡ Err (e.kind, drop index t)) × (index ≤ length t))
        → MatchOption o ⊥ (λ index. (located b ≡ Err (e.kind, drop index t)) × (index ≤ length t))
    on None h = h
    on (Some i) h = (carry _ _ h.0, h.1)

-- a part fails, and the whole with it
pub fails_in : {A B : Type 0} (f : Version → Reader A) (g : Version → Reader B) (whole part : Cursor) (e : Error)
    → kept part ≡ kept whole → FailsWith (f (version whole) (rest part)) (g (version whole) (rest whole))
    → FailsAs part e f → FailsAs whole e g
fails_in f g whole part e same carry (inl out) = inl out
fails_in f g whole part e same carry (inr fault) = inr (fault_with (input whole) e (f (version whole) (rest part))
    (g (version whole) (rest whole)) carry
    (subst (λ (k : Parser × Global). IsFaultOf (kept_input k) e (f (kept_version k) (rest part))) same fault))

-- ---- errors of functions that may run out of memory only after a mark

pub refused : {A : Type 0} (t : List ℕ) (e : Error) (a : Answer A) → IsErrorOf t e a
    → (e ≡ out_of_memory) ⊎ IsFaultOf t e a
refused t e a = on e.index refl
  where
    on : (o : Option ℕ) → e.index ≡ o → MatchOption o (IsRefusal t e)
        (λ index. (located a ≡ Err (e.kind, drop index t)) × (index ≤ length t)) → (e ≡ out_of_memory)
        ⊎ MatchOption o ⊥ (λ index. (located a ≡ Err (e.kind, drop index t)) × (index ≤ length t))
    on None i h = inl (unnamed e i h.0)
    on (Some index) i h = inr h

marked : (t : List ℕ) → HoldsMark t → MayNeedMemory item_field t
marked t (inl h) = (backslash, h, refl)
marked t (inr (inl h)) = (percent_sign, h, refl)
marked t (inr (inr h)) = (colon, h, refl)

pub refused_needs : {A : Type 0} (t : List ℕ) (e : Error) (a : Answer A) → IsErrorOf t e a → NeedsMemory item_field t e
refused_needs t e a h out = marked t (subst (λ (e : Error). IsErrorOf t e a) out h).1

-- ---- the error of a field

-- a part of the field fails, and the field with it
pub field_fails : {A : Type 0} (version : Version) (kind : FieldKind) (t : List ℕ) (e : Error) (a : Answer A)
    → ((k : ErrorKind) (q : List ℕ) → located a ≡ Err (k, q) → located_whole (read_field version kind t) ≡ Err (k, q))
    → (e ≡ out_of_memory) ⊎ IsFaultOf t e a → IsParseError version kind t e
field_fails version kind t e a carry (inl out) = inl out
field_fails version kind t e a carry (inr fault) = parse_error version kind t e (on e.index fault)
  where
    on : (o : Option ℕ) → MatchOption o ⊥ (λ index. (located a ≡ Err (e.kind, drop index t)) × (index ≤ length t))
        → MatchOption o (IsRefusal t e) (λ index. (located_whole (read_field version kind t)
        ≡ Err (e.kind, drop index t)) × (index ≤ length t))
    on None h = absurd h
    on (Some n) h = (carry _ _ h.0, h.1)
