-- Rows that are read to their end, and their text.
use Rattle.std.proofs.Common.{◌≡◌, ℕ, ◌<◌, List, [], ◌∷◌, ◌++◌, length, map, take, drop, refl, sym, ◌∙◌, ap, subst}
use Rattle.std.proofs.Common.{arith, true, if◌then◌else◌, Option, Some, None, option_map, inl, inr, MatchOption}
use Rattle.std.proofs.{Common.{string_bytes, append-nil, length-append, take-append-drop}, lemmas.Option.same_Some}
use Rattle.sfv_writer.proofs.ReadBack.{read_back}
use Rattle.sfv.specs.Field.{RawField, item, inner_list, token, HasMember, Fits, FieldKind, item_field, list_field}
use Rattle.sfv.specs.Field.{dictionary_field, Version, TreeEvent, parameter, parameters_end, events, canonical, ordered}
use Rattle.sfv.specs.Field.{IsParsedAs, Rfc8941, Rfc9651}
use Rattle.sfv.specs.{Types.SerializeError, Values.{AllFit, fits_bare, bare_values}, Versions.NamesFirstUnfit}
use Rattle.sfv_c.specs.Answers.{Puts}
use Rattle.sfv_c.specs.RowEvents.{ParseState, Piece, text_only, followed_by, added, beginning, may_end, Reads}
use Rattle.sfv_c.specs.RowEvents.{WritesAll, IsErrorOf, IsAppended, Appends, IsTokenAlone}
use Rattle.sfv_c.specs.Writing.{AreRowsOfField, BeginRowsOfField, IsWriteFault, PutsRows}
use Rattle.sfv_c.specs.declared.{answer.Written.Written, output.Output.Output, rows.Row.Row}
use Rattle.sfv_c.proofs.{Accepted.field_of_events, Places.{adds_field, same_piece, piece_of}}
use Rattle.sfv_c.proofs.{RowEvents.{reads_valid, reads_rows, rows_first, rows_length}, Valid.valid_field}
use Rattle.sfv.specs.Types.serialize_errors as errors
use Rattle.sfv_c.specs.declared.answer.Written.TheVariants as written
use Rattle.sfv_c.specs.declared.answer.CallFault.TheVariants as faults

end_here : (p : ParseState) → may_end p ≡ true → added p [] ≡ Some (text_only [])
end_here p e = subst (λ b. (if b then Some (text_only []) else None) ≡ Some (text_only [])) (sym e) refl

-- what was read are the rows of a field, and its text and values were added
pub record IsField (kind : FieldKind) (rows : List Row) (x : Piece) : Type 0 where
  pub raw : RawField kind
  pub rows_of : AreRowsOfField kind rows raw
  pub text : x.text ≡ canonical kind raw
  pub values : x.values ≡ bare_values kind raw

field_read : (kind : FieldKind) (rows : List Row) (before now : Output) (h : WritesAll rows (beginning kind) before now)
    → IsField kind rows h.writes.piece
field_read kind rows before now h =
    let es = h.writes.es in
    let x = h.writes.piece in
    let read : Reads rows es [] = subst (λ (rest : List Row). Reads rows es rest) h.over h.writes.read in
    let ends : added (beginning kind) es ≡ Some x = ap (added (beginning kind)) (sym (append-nil es))
    ∙ (h.writes.leads [] ∙ (ap (option_map (followed_by x)) (end_here h.place h.ends)
    ∙ ap Some (same_piece (append-nil x.text) (append-nil x.values)))) in
    let f = field_of_events kind es (x, ends) in
    let same = same_Some x (piece_of (canonical kind f.0) (bare_values kind f.0))
    (sym ends ∙ (ap (added (beginning kind)) f.1 ∙ adds_field kind f.0)) in
    let all : Reads rows (events kind f.0) [] = subst (λ (es : List TreeEvent). Reads rows es []) f.1 read in
    record {
      raw = f.0;
      rows_of = record {
        value = valid_field kind f.0 (reads_valid rows (events kind f.0) [] all);
        in_rows = reads_rows rows (events kind f.0) all;
      };
      text = ap (λ (x : Piece). x.text) same;
      values = ap (λ (x : Piece). x.values) same;
    }

-- a field with an event has two, and a member
two_events : (kind : FieldKind) (raw : RawField kind) → 0 < length (events kind raw)
    → (1 < length (events kind raw)) × HasMember kind raw
two_events item_field i h =
    (omega (arith, length-append (map (λ p. parameter p.0 p.1) i.parameters) (parameters_end ∷ [])), tt)
two_events list_field [] h = absurd (omega (arith, h))
two_events list_field (item i ∷ ms) h = (omega arith, (item i, ms, refl))
two_events list_field (inner_list l ∷ ms) h = (omega arith, (inner_list l, ms, refl))
two_events dictionary_field [] h = absurd (omega (arith, h))
two_events dictionary_field ((key, item i) ∷ ms) h = (omega arith, ((key, item i), ms, refl))
two_events dictionary_field ((key, inner_list l) ∷ ms) h = (omega arith, ((key, inner_list l), ms, refl))

-- one without events has no member and no value
nothing : (version : Version) (kind : FieldKind) (raw : RawField kind) → length (events kind raw) ≡ 0
    → Fits version kind raw × (¬ HasMember kind raw)
nothing version item_field i h = absurd (omega (arith, h))
nothing version list_field [] h = (tt, λ m. let e = m.2 in cc)
nothing version list_field (m ∷ ms) h = absurd (omega (arith, h))
nothing version dictionary_field [] h = (tt, λ m. let e = m.2 in cc)
nothing version dictionary_field (m ∷ ms) h = absurd (omega (arith, h))

-- the first events of a field are those of a prefix
after_two : (kind : FieldKind) (rows : List Row) (raw : RawField kind) → AreRowsOfField kind rows raw → 0 < length rows
    → (1 < length rows) × BeginRowsOfField kind (take 2 rows)
after_two kind rows raw h some =
    let es = events kind raw in
    let count : length rows ≡ length es = rows_length rows es h.in_rows in (
      omega (arith, count, (two_events kind raw (omega (arith, some, count))).0),
      record {
        es = take 2 es;
        in_rows = rows_first 2 rows es h.in_rows;
        begins = record { raw = raw; is_value = h.value; more = drop 2 es; all = sym (take-append-drop 2 es) };
      },
    )

fault : (version : Version) (kind : FieldKind) (rows : List Row) (x : Piece) → IsField kind rows x → 0 < length rows
    → (e : SerializeError) → IsErrorOf version x.values e → IsWriteFault version kind rows (faults.Write e)
fault version kind rows x f some errors.OutOfMemory h = after_two kind rows f.raw f.rows_of some
fault version kind rows x f some (errors.Unsupported unfit) (inl h) = absurd (cc)
fault version kind rows x f some (errors.Unsupported unfit) (inr h) = record {
  raw = f.raw;
  rows_of = f.rows_of;
  error = inr (subst (λ values. NamesFirstUnfit version values (errors.Unsupported unfit)) f.values h);
}

-- what is appended to an output without error
appended : (version : Version) (x : Piece) (before now : Output) → Appends x before now → before.version ≡ version
    → before.error ≡ None → (error : Option SerializeError) → now.error ≡ error
    → IsAppended version x before.text now.text error
appended version x before now h v none error e =
    let k = subst (λ o. MatchOption o (IsAppended before.version x before.text now.text now.error)
    (λ d. now.error ≡ Some d)) none h.state in
    let l = subst (λ w. IsAppended w x before.text now.text now.error) v k in
    subst (λ o. IsAppended version x before.text now.text o) e l

-- nothing is written
pub no_rows : (version : Version) (kind : FieldKind) (rows : List Row) (before now : Output) (out : List ℕ)
    → WritesAll rows (beginning kind) before now → length rows ≡ 0 → PutsRows version kind rows out out written.Nothing
no_rows version kind rows before now out all empty =
    let f = field_read kind rows before now all in
    let none = nothing version kind f.raw (sym (rows_length rows (events kind f.raw) f.rows_of.in_rows) ∙ empty) in
    record { raw = f.raw; rows_of = f.rows_of; fits = none.0; text = None; written = none.1; put = (refl, refl) }

module _ (version : Version) (kind : FieldKind) (rows : List Row) (before now : Output)
    (v : before.version ≡ version) (none : before.error ≡ None) (all : WritesAll rows (beginning kind) before now) where
  pub write_fault : 0 < length rows → (e : SerializeError) → now.error ≡ Some e
      → IsWriteFault version kind rows (faults.Write e)
  write_fault some e h = fault version kind rows all.writes.piece (field_read kind rows before now all) some e
      (appended version all.writes.piece before now all.writes.appends v none (Some e) h)

  pub text_put : 0 < length rows → string_bytes before.text ≡ [] → now.error ≡ None → (old new : List ℕ) (w : Written)
      → Puts (string_bytes now.text) old new w → PutsRows version kind rows old new w
  text_put some empty h old new w put =
      let f = field_read kind rows before now all in
      let k = appended version all.writes.piece before now all.writes.appends v none None h in
      let fits : Fits version kind f.raw = subst (AllFit version) f.values k.0 in
      let text : string_bytes now.text ≡ canonical kind f.raw =
      k.1 ∙ (ap (λ t. t ++ all.writes.piece.text) empty ∙ f.text) in
      let count : length rows ≡ length (events kind f.raw) = rows_length rows (events kind f.raw) f.rows_of.in_rows in
      record {
        raw = f.raw;
        rows_of = f.rows_of;
        fits = fits;
        text = Some (string_bytes now.text);
        written = (
          (two_events kind f.raw (omega (arith, some, count))).1,
          text,
          subst (λ t. IsParsedAs version kind t (ordered kind f.raw)) (sym text)
              (read_back version kind f.raw f.rows_of.value fits),
        );
        put = put;
      }

-- the text of a token without parameters
fits_token : (version : Version) (t : List ℕ) → fits_bare version (token t) ≡ true
fits_token Rfc8941 t = refl
fits_token Rfc9651 t = refl

pub token_put : (version : Version) (rows : List Row) (t : List ℕ) → IsTokenAlone rows t
    → (old new : List ℕ) (w : Written) → Puts t old new w → PutsRows version item_field rows old new w
token_put version rows t read old new w put =
    let raw : RawField item_field = record { bare = token t; parameters = [] } in
    let es = events item_field raw in
    let value = valid_field item_field raw (reads_valid rows es [] read) in
    let same : canonical item_field raw ≡ t = append-nil t in
    let fits : Fits version item_field raw = (fits_token version t, tt) in
    record {
      raw = raw;
      rows_of = record { value = value; in_rows = reads_rows rows es read };
      fits = fits;
      text = Some t;
      written = (
        tt,
        sym same,
        subst (λ x. IsParsedAs version item_field x (ordered item_field raw)) same
            (read_back version item_field raw value fits),
      );
      put = put;
    }
