-- Reading rows step by step, and where it stops.
use Rattle.std.proofs.Common.{◌≡◌, ℕ, ◌+◌, List, [], ◌∷◌, ◌++◌, drop, refl, sym, ◌∙◌, ap, subst, append_assoc, arith}
use Rattle.std.proofs.Common.{length-append, drop-drop, get_or, Bool, false, IsTrue, Option, Some, None, Result, Ok}
use Rattle.std.proofs.Common.{Err, inl, inr, option_map, MatchOption, string_bytes, codes, append-nil}
use Rattle.std.specs.{Array.IsFirstChunk, Prelude.⊤, declared.alloc.Global.Global}
use Rattle.sfv_spec.proofs.Fields.{fit_append}
use Rattle.sfv_writer.proofs.Checks.{names_front, names_after}
use Rattle.sfv.specs.{BareItems.ref_value, Classes.is_key}
use Rattle.sfv.specs.Events.{TreeEvent, entry, keyed_entry, begins_item, begins_inner_list, bare_item, parameter}
use Rattle.sfv.specs.Events.{parameters_end, inner_list_end}
use Rattle.sfv.specs.{Types.{Version, SerializeError}, Values.{BareValue, IsBareValue}, Written.separator_before}
use Rattle.sfv_c.specs.RowEvents.{ParseState, ended, list_members, dictionary_members, member, value, parameters, items}
use Rattle.sfv_c.specs.RowEvents.{IsValidEvent, added, after, may_end, piece, Piece, text_only, followed_by, Reads}
use Rattle.sfv_c.specs.RowEvents.{IsStuck, IsErrorOf, IsAppended, Appends, Writes, StopsAt, WritesOrStops, item_piece}
use Rattle.sfv_c.specs.{RowEvents.{IsPlainEntryAt, RefItem, GivesValue}, Rows.IsRowOf}
use Rattle.sfv_c.specs.declared.{output.Output.Output, rows.Row.Row, rows_to_text.WrongRow.WrongRow}
use Rattle.sfv_c.proofs.{Places.{adds_nothing, adds_both}, RowEvents.{reads_on, four_rows}}
use Rattle.std.specs.declared.string.String as std_string

-- nothing is appended
pub appends_none : (o : Output) → Appends (text_only []) o o
appends_none o = record { version = refl; state = none o.error }
  where
    none : (e : Option SerializeError)
        → MatchOption e (IsAppended o.version (text_only []) o.text o.text e) (λ d. e ≡ Some d)
    none None = (tt, sym (append-nil (string_bytes o.text)))
    none (Some d) = refl

both : (version : Version) (x y : Piece) (a b c : std_string.String Global) (e f g : Option SerializeError)
    → MatchOption e (IsAppended version x a b f) (λ d. f ≡ Some d) → MatchOption f (IsAppended version y b c g)
    (λ d. g ≡ Some d) → MatchOption e (IsAppended version (followed_by x y) a c g) (λ d. g ≡ Some d)
both version x y a b c (Some d) f g h k =
    subst (λ (o : Option SerializeError). MatchOption o (IsAppended version y b c g) (λ d. g ≡ Some d)) h k
both version x y a b c None None None h k = (
  fit_append version x.values y.values h.0 k.0,
  k.1 ∙ (ap (λ (t : List ℕ). t ++ y.text) h.1 ∙ append_assoc (string_bytes a) x.text y.text),
)
both version x y a b c None None (Some d) h (inl k) = inl k
both version x y a b c None None (Some d) h (inr k) = inr (names_after version x.values y.values d h.0 k)
both version x y a b c None (Some d) g h k =
    subst (λ (o : Option SerializeError). IsAppended version (followed_by x y) a c o) (sym k) (front h)
  where
    front : IsErrorOf version x.values d → IsErrorOf version (x.values ++ y.values) d
    front (inl h) = inl h
    front (inr h) = inr (names_front version x.values y.values d h)

pub appends_both : {x y : Piece} {a b c : Output} → Appends x a b → Appends y b c → Appends (followed_by x y) a c
appends_both {x} {y} {a} {b} {c} h k = record {
  version = k.version ∙ h.version;
  state = both a.version x y a.text b.text c.text a.error b.error c.error h.state
      (subst (λ (v : Version). MatchOption b.error (IsAppended v y b.text c.text c.error) (λ d. c.error ≡ Some d))
      h.version k.state);
}

-- what an event and those after it add, by where it leads
abbrev adds_at : Piece → List TreeEvent → Option ParseState → Option Piece
adds_at x es o = elim o [ None ↦ None | Some next ↦ option_map (followed_by x) (added next es) ]

-- an event that may not come here, and one that may
pub no_place : (p : ParseState) (e : TreeEvent) (es : List TreeEvent) → after p e ≡ None → added p (e ∷ es) ≡ None
no_place p e es h = ap (adds_at (piece p e) es) h

pub a_place : (p q : ParseState) (e : TreeEvent) (es : List TreeEvent) → after p e ≡ Some q
    → added p (e ∷ es) ≡ option_map (followed_by (piece p e)) (added q es)
a_place p q e es h = ap (adds_at (piece p e) es) h

-- no row, one row, and rows after rows
pub writes_none : (rows : List Row) (p : ParseState) (at : ℕ) (o : Output) → Writes rows p p at at o o
writes_none rows p at o = record {
  es = [];
  read = refl;
  count = omega arith;
  piece = text_only [];
  leads = λ more. sym (adds_nothing (added p more));
  appends = appends_none o;
}

pub writes_row : {rows : List Row} {p q : ParseState} {at : ℕ} {row : Row} {before now : Output} (e : TreeEvent)
    → drop at rows ≡ row ∷ drop (at + 1) rows → IsValidEvent e → IsRowOf row e → after p e ≡ Some q
    → Appends (piece p e) before now → Writes rows p q at (at + 1) before now
writes_row {rows} {p} {q} {at} {row} e is v i a x = record {
  es = e ∷ [];
  read = subst (λ (r : List Row). Reads r (e ∷ []) (drop (at + 1) rows)) (sym is) (v, i, refl);
  count = omega arith;
  piece = piece p e;
  leads = λ more. a_place p q e more a;
  appends = x;
}

pub writes_on : {rows : List Row} {p q r : ParseState} {start mid at : ℕ} {a b c : Output}
    → Writes rows p q start mid a b → Writes rows q r mid at b c → Writes rows p r start at a c
writes_on {rows} {p} {q} {r} {start} {mid} {at} {a} {b} {c} h k = record {
  es = h.es ++ k.es;
  read = reads_on (drop start rows) h.es (drop mid rows) k.es (drop at rows) h.read k.read;
  count = omega (arith, h.count, k.count, length-append h.es k.es);
  piece = followed_by h.piece k.piece;
  leads = λ more. ap (added p) (append_assoc h.es k.es more) ∙ (h.leads (k.es ++ more)
      ∙ (ap (option_map (followed_by h.piece)) (k.leads more) ∙ adds_both h.piece k.piece (added r more)));
  appends = appends_both h.appends k.appends;
}

-- an entry without key and parameters
adds_entry : (a b : Piece) (o : Option Piece)
    → option_map (followed_by a) (option_map (followed_by (text_only []))
    (option_map (followed_by b) (option_map (followed_by (text_only [])) o)))
    ≡ option_map (followed_by (followed_by a b)) o
adds_entry a b o =
    ap (option_map (followed_by a)) (adds_nothing (option_map (followed_by b) (option_map (followed_by (text_only [])) o))
    ∙ ap (option_map (followed_by b)) (adds_nothing o)) ∙ adds_both a b o

pub entry_read : (rows chunk : List Row) (at : ℕ) (d : Row) → IsFirstChunk (drop at rows) chunk 4
    → IsRowOf (get_or chunk 0 d) entry → IsRowOf (get_or chunk 1 d) begins_item
    → IsRowOf (get_or chunk 3 d) parameters_end → (r : Option RefItem) → GivesValue (IsRowOf (get_or chunk 2 d)) r
    → MatchOption r ⊤ (λ v. IsPlainEntryAt rows at (ref_value v))
entry_read rows chunk at d h e i p None g = tt
entry_read rows chunk at d h e i p (Some v) g =
    subst (λ (r : List Row). Reads r (entry ∷ begins_item ∷ bare_item (ref_value v) ∷ parameters_end ∷ [])
    (drop (at + 4) rows)) (sym (four_rows (drop at rows) chunk d h))
    (tt, e, (tt, i, (g.0, g.1, (tt, p, drop-drop 4 at rows))))

pub writes_entry : {rows : List Row} {at : ℕ} {a b c : Output} (is_first : Bool) (v : BareValue)
    → IsPlainEntryAt rows at v → Appends (text_only (separator_before is_first (codes ", "))) a b
    → Appends (item_piece false v) b c → Writes rows (list_members is_first) (list_members false) at (at + 4) a c
writes_entry {rows} {at} is_first v read x y =
    let front = text_only (separator_before is_first (codes ", ")) in
    record {
      es = entry ∷ begins_item ∷ bare_item v ∷ parameters_end ∷ [];
      read = read;
      count = refl;
      piece = followed_by front (item_piece false v);
      leads = λ more. adds_entry front (item_piece false v) (added (list_members false) more);
      appends = appends_both x y;
    }

-- an answer after rows
pub stops_on : {rows : List Row} {p q : ParseState} {start mid at : ℕ} {a b c : Output}
    → Writes rows p q start mid a b → StopsAt rows q mid at b c → StopsAt rows p start at a c
stops_on h k = record { place = k.place; writes = writes_on h k.writes; stuck = k.stuck }

pub answers_on : {rows : List Row} {p q : ParseState} {start mid : ℕ} {a b : Output} (r : ParseState) (c : Output)
    (result : Result ℕ WrongRow) → Writes rows p q start mid a b → WritesOrStops rows q r mid b c result
    → WritesOrStops rows p r start a c result
answers_on r c (Ok at) h k = writes_on h k
answers_on r c (Err wrong) h k = stops_on h k

pub stops_at : {rows : List Row} {p q : ParseState} {start at : ℕ} {a b : Output}
    → Writes rows p q start at a b → IsStuck q (drop at rows) → StopsAt rows p start at a b
stops_at {rows} {p} {q} h k = record { place = q; writes = h; stuck = k }

-- where no event can come, or there is none
pub stuck_at : {rest : List Row} {row : Row} {more : List Row} (p : ParseState) → rest ≡ row ∷ more
    → ((e : TreeEvent) → IsValidEvent e → IsRowOf row e → after p e ≡ None) → IsStuck p rest
stuck_at p is h = subst (IsStuck p) (sym is) h

pub stuck_end : {rest : List Row} (p : ParseState) → rest ≡ [] → may_end p ≡ false → IsStuck p rest
stuck_end p is h = subst (IsStuck p) (sym is) h

-- nothing may follow an item
pub over : {rest : List Row} {row : Row} {more : List Row} → rest ≡ row ∷ more → IsStuck ended rest
over is = stuck_at ended is (λ e v i. refl)

-- by a test of what holds
pub fails : {Q : Type 0} → (IsTrue false → Q) × (Q → IsTrue false) → Q → ⊥
fails h q = let t = h.1 q in cc

-- the events that may come at a place
module _ (row : Row) where
  pub not_parameter : (p : ParseState) → (IsRowOf row parameters_end → ⊥)
      → ((key : List ℕ) (v : BareValue) → IsTrue (is_key key) → IsBareValue v → IsRowOf row (parameter key v) → ⊥)
      → (e : TreeEvent) → IsValidEvent e → IsRowOf row e → after (parameters p) e ≡ None
  not_parameter p h g (parameter key v) b i = absurd (g key v b.0 b.1 i)
  not_parameter p h g parameters_end b i = absurd (h i)
  not_parameter p h g e b i = refl

  pub not_value : (keyed : Bool) (p : ParseState) → ((v : BareValue) → IsBareValue v → IsRowOf row (bare_item v) → ⊥)
      → (e : TreeEvent) → IsValidEvent e → IsRowOf row e → after (value keyed p) e ≡ None
  not_value keyed p h (bare_item v) b i = absurd (h v b i)
  not_value keyed p h e b i = refl

  pub not_item : (is_first : Bool) (p : ParseState) → (IsRowOf row inner_list_end → ⊥) → (IsRowOf row begins_item → ⊥)
      → (e : TreeEvent) → IsValidEvent e → IsRowOf row e → after (items is_first p) e ≡ None
  not_item is_first p h g begins_item b i = absurd (g i)
  not_item is_first p h g inner_list_end b i = absurd (h i)
  not_item is_first p h g e b i = refl

  pub not_member : (keyed : Bool) (p : ParseState) → (IsRowOf row begins_item → ⊥) → (IsRowOf row begins_inner_list → ⊥)
      → (e : TreeEvent) → IsValidEvent e → IsRowOf row e → after (member keyed p) e ≡ None
  not_member keyed p h g begins_item b i = absurd (h i)
  not_member keyed p h g begins_inner_list b i = absurd (g i)
  not_member keyed p h g e b i = refl

  pub not_entry : (is_first : Bool) → (IsRowOf row entry → ⊥)
      → (e : TreeEvent) → IsValidEvent e → IsRowOf row e → after (list_members is_first) e ≡ None
  not_entry is_first h entry b i = absurd (h i)
  not_entry is_first h e b i = refl

  pub not_keyed : (is_first : Bool) → ((key : List ℕ) → IsTrue (is_key key) → IsRowOf row (keyed_entry key) → ⊥)
      → (e : TreeEvent) → IsValidEvent e → IsRowOf row e → after (dictionary_members is_first) e ≡ None
  not_keyed is_first h (keyed_entry key) b i = absurd (h key b i)
  not_keyed is_first h e b i = refl
