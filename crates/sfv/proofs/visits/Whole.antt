-- What a whole field gives, by what the code found out.
use Rattle.std.proofs.Common.{◌≡◌, ℕ, ◌≤◌, true, false, List, [], ◌∷◌, length, drop, Option, Some, None, Ok, Err, refl}
use Rattle.std.{proofs.Common.{ap, subst, ◌∙◌, MatchOption, is_some}, specs.declared.alloc.Global.Global}
use Rattle.sfv_spec.{specs.Events.{TreeEvent, events}, specs.Values.RawItem, proofs.Marks.is_space}
use Rattle.sfv_model.specs.Fields.{whole_field_at, ending, read_field}
use Rattle.sfv_model.specs.{Items.item_at, Reader.{Answer, Reader, first, give, ◌>>=◌, span}}
use Rattle.sfv_model.proofs.Types.{item_field, Version, ErrorKind, TrailingCharactersAfterParsedValue}
use Rattle.sfv_model.proofs.complete.Combinators.{bind_complete}
use Rattle.sfv_base.specs.declared.error.Error.{Error}
use Rattle.sfv.specs.{Memory.IsRefusal, declared.parser.Parser.Parser, declared.parser.cursor.Cursor.Cursor}
use Rattle.sfv.specs.parser.Cursor.{kept, kept_input, rest, located, IsErrorOf, located_whole}
use Rattle.sfv.proofs.reads.Errors.{fault_bind}

-- an item and the spaces after it
unfoldable pub spaced : Version → Reader RawItem
spaced version = item_at version >>= λ i. span is_space >>= λ _. give i

pub field_is : (version : Version) (t s r : List ℕ) → span is_space t ≡ Ok (s, r)
    → read_field version item_field t ≡ ending (events item_field) (spaced version r)
unfolding read_field whole_field_at spaced
field_is version t s r e = ap (ending (events item_field)) (bind_complete (span is_space) _ t r s e)

pub ending_located : {A : Type 0} (parts : A → List TreeEvent) (a : Answer A) (k : ErrorKind) (r : List ℕ)
    → located a ≡ Err (k, r) → located_whole (ending parts a) ≡ Err (k, r)
ending_located parts (Ok x) k r h = absurd cc
ending_located parts (Err f) k r h = ap (λ (p : ErrorKind × List ℕ). Err p) cc

pub field_faulty : (version : Version) (t s r : List ℕ) (k : ErrorKind) (q : List ℕ) → span is_space t ≡ Ok (s, r)
    → located (item_at version r) ≡ Err (k, q) → located_whole (read_field version item_field t) ≡ Err (k, q)
unfolding spaced
field_faulty version t s r k q e h = ap located_whole (field_is version t s r e)
    ∙ ending_located (events item_field) (spaced version r) k q (fault_bind (item_at version) _ r k q h)

-- the error is the fault that a whole field is answered with, or out of memory
pub field_error : (version : Version) (t s r : List ℕ) (i : List ℕ) (e : Error)
    → span is_space t ≡ Ok (s, r) → IsErrorOf i e (item_at version r) → MatchOption e.index (IsRefusal i e)
    (λ index. (located_whole (read_field version item_field t) ≡ Err (e.kind, drop index i)) × (index ≤ length i))
field_error version t s r i e skipped error = on e.index error
  where
    on : (o : Option ℕ) → MatchOption o (IsRefusal i e)
        (λ index. (located (item_at version r) ≡ Err (e.kind, drop index i)) × (index ≤ length i))
        → MatchOption o (IsRefusal i e) (λ index. (located_whole (read_field version item_field t)
        ≡ Err (e.kind, drop index i)) × (index ≤ length i))
    on None h = h
    on (Some n) h = (field_faulty version t s r _ _ skipped h.0, h.1)

-- after an item and spaces
after : (version : Version) (t s r q s' w : List ℕ) (raw : RawItem) → span is_space t ≡ Ok (s, r)
    → item_at version r ≡ Ok (raw, q) → span is_space q ≡ Ok (s', w)
    → read_field version item_field t ≡ ending (events item_field) (Ok (raw, w))
unfolding spaced give
after version t s r q s' w raw e k n = field_is version t s r e ∙ ap (ending (events item_field))
    (bind_complete (item_at version) _ r q raw k ∙ bind_complete (span is_space) _ q w s' n)

pub field_trailing : (version : Version) (t s r q s' w : List ℕ) (raw : RawItem) → span is_space t ≡ Ok (s, r)
    → item_at version r ≡ Ok (raw, q) → span is_space q ≡ Ok (s', w) → is_some (first w) ≡ true
    → located_whole (read_field version item_field t) ≡ Err (TrailingCharactersAfterParsedValue, w)
field_trailing version t s r q s' w raw e k n h = ap located_whole (after version t s r q s' w raw e k n) ∙ on w h
  where
    on : (w : List ℕ) → is_some (first w) ≡ true → located_whole (ending (events item_field) (Ok (raw, w)))
        ≡ Err (TrailingCharactersAfterParsedValue, w)
    on [] h = absurd cc
    on (c ∷ w) h = refl

-- the byte after an item and spaces is where the error stands
pub field_trailing_error : (version : Version) (t s r q s' : List ℕ) (p : Cursor) (j : Parser × Global) (raw : RawItem)
    → kept p ≡ j → span is_space t ≡ Ok (s, r) → item_at version r ≡ Ok (raw, q) → span is_space q ≡ Ok (s', rest p)
    → is_some (first (rest p)) ≡ true
    → (located_whole (read_field version item_field t)
    ≡ Err (TrailingCharactersAfterParsedValue, drop p.index (kept_input j))) × (p.index ≤ length (kept_input j))
field_trailing_error version t s r q s' p j raw same e k n h = subst (λ (i : Parser × Global). (located_whole
    (read_field version item_field t) ≡ Err (TrailingCharactersAfterParsedValue, drop p.index (kept_input i)))
    × (p.index ≤ length (kept_input i))) same (field_trailing version t s r q s' (rest p) raw e k n h, p.within)

pub field_done : (version : Version) (t s r q s' w : List ℕ) (raw : RawItem) → span is_space t ≡ Ok (s, r)
    → item_at version r ≡ Ok (raw, q) → span is_space q ≡ Ok (s', w) → is_some (first w) ≡ false
    → read_field version item_field t ≡ Ok raw
field_done version t s r q s' w raw e k n h = after version t s r q s' w raw e k n ∙ on w h
  where
    on : (w : List ℕ) → is_some (first w) ≡ false → ending (events item_field) (Ok (raw, w)) ≡ Ok raw
    on [] h = refl
    on (c ∷ w) h = absurd cc
