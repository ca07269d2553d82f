-- The text of a bare item that a visitor received as it was parsed.
use Rattle.std.proofs.Common.{◌≡◌, ℕ, List, [], ◌∷◌, ◌++◌, map, drop, Ok, refl, sym, ap, subst, ◌∙◌, append_assoc, Bool}
use Rattle.std.proofs.Common.{inl, inr, not, ◌==◌}
use Rattle.std.{specs.Cow.cow_str_bytes, specs.List.FoldsTo, proofs.lemmas.List.append_cancel_right}
use Rattle.sfv_spec.specs.{Ascii.byte, Events.item_events, Grammar.{IsBareText, BeginsWithLongest}, Texts.RunOf}
use Rattle.sfv_spec.proofs.Marks.{double_quote, percent_sign, is_space}
use Rattle.sfv_model.specs.{Quoted.{string_at, display_at}, Reader.{Answer, Apart, span, visited}}
use Rattle.sfv_model.proofs.{Types.{item_field, Version}, complete.Combinators.{span_complete, Apart-cons}}
use Rattle.sfv_model.proofs.complete.Quoted.{string_complete, display_complete}
use Rattle.sfv_tree.specs.{Events.event_of, ProvidedVisitors.ReadBareItem, declared.visitor.Event.Event}
use Rattle.sfv.specs.Field.{BareValue, RawItem, IsFieldText, TreeEvent, bare_item, parameters_events, events}
use Rattle.sfv.specs.{Field.{input_value, read_text}, Parsers.{HasNoQuote, IsBorrowedIfPlain, IsReadAs, AreReadFrom}}
use Rattle.sfv.specs.{declared.parser.cursor.Cursor.Cursor, parser.Cursor.rest, parser.Quoted.IsBorrowedUnlessEscaped}
use Rattle.sfv.proofs.Relations.{folded, HasBorrowed, HasEventsRead}
use Rattle.sfv.proofs.visits.{Fields.whole_accepted, First.{visited_first, same_rest}, Passed.{run_apart, both_apart}}
use Rattle.sfv_values.specs.declared.bare.GenericBareItem.TheVariants as bare
use Rattle.sfv_tree.specs.declared.visitor.Event.TheVariants as event

abbrev no_quote_byte : ℕ → Bool
no_quote_byte c = not (c == byte "\"")

-- no percent sign after the first byte
abbrev IsPlainAfterFirst : List ℕ → Type 0
IsPlainAfterFirst l = RunOf (λ c. not (c == byte "%")) (drop 1 l)

-- in the text that was taken
pub lent_front : (version : Version) (item : ReadBareItem) (before after : Cursor) (front : List ℕ)
    → rest before ≡ front ++ rest after → IsBareText version (input_value item) front
    → IsBorrowedUnlessEscaped item before after → IsBorrowedIfPlain item front
lent_front version (bare.String text) before after front split means h =
    let whole : front ≡ double_quote ∷ means.back = means.text ∙ ap (λ (l : List ℕ). l ++ means.back) means.first in (
      λ b. let m = h.0 b in
          let same : front ≡ double_quote ∷ m.0 = append_cancel_right front (double_quote ∷ m.0) (rest after) (sym split ∙ m.1) in
          subst (RunOf (λ c. not (c == byte "\\"))) (sym same) m.2,
      λ p. h.1 (
        means.back,
        split ∙ ap (λ (l : List ℕ). l ++ rest after) whole,
        subst (RunOf (λ c. not (c == byte "\\"))) whole p,
      ),
    )
lent_front version (bare.DisplayString text) before after front split means h =
    let whole : front ≡ percent_sign ∷ double_quote ∷ means.1.back =
    means.1.text ∙ ap (λ (l : List ℕ). l ++ means.1.back) means.1.first in (
      λ b. let m = h.0 b in
          let same : front ≡ percent_sign ∷ double_quote ∷ m.0 =
          append_cancel_right front (percent_sign ∷ double_quote ∷ m.0) (rest after) (sym split ∙ m.1) in
          subst (λ (l : List ℕ). IsPlainAfterFirst l) (sym same) m.2,
      λ p. h.1 (
        means.1.back,
        split ∙ ap (λ (l : List ℕ). l ++ rest after) whole,
        subst (λ (l : List ℕ). IsPlainAfterFirst l) whole p,
      ),
    )
lent_front version item before after front split means h = tt

-- ---- the first text of the events of an item

-- two texts without a quote, and a quote after each
same_quote : (a b x y : List ℕ) → HasNoQuote a → HasNoQuote b → a ++ double_quote ∷ x ≡ b ++ double_quote ∷ y → x ≡ y
same_quote a b x y h k e =
    let stops : (z : List ℕ) → Apart no_quote_byte (double_quote ∷ z) = λ z. Apart-cons _ _ _ refl in
    let same : double_quote ∷ x ≡ double_quote ∷ y = same_rest _ _ _ _ _
    (ap (span no_quote_byte) (sym e) ∙ span_complete _ _ _ h (stops x)) (span_complete _ _ _ k (stops y)) in
    cc

-- two quoted texts of one value, the first of a text: they are one text
same_quoted : (reads : List ℕ → Answer (List ℕ)) (opening s a b u v x y : List ℕ) → HasNoQuote opening
    → HasNoQuote a → HasNoQuote b → reads (u ++ x) ≡ Ok (s, x) → reads (v ++ y) ≡ Ok (s, y)
    → a ++ (opening ++ double_quote ∷ u) ++ x ≡ b ++ (opening ++ double_quote ∷ v) ++ y → u ≡ v
same_quoted reads opening s a b u v x y quiet h k m n e =
    let grouped : (c w z : List ℕ) → c ++ (opening ++ double_quote ∷ w) ++ z ≡ (c ++ opening)
    ++ double_quote ∷ (w ++ z) = λ c w z. append_assoc c (opening ++ double_quote ∷ w) z ∙ ap (λ (l : List ℕ). c ++ l)
    (append_assoc opening (double_quote ∷ w) z) ∙ sym (append_assoc c opening (double_quote ∷ (w ++ z))) in
    let tails : u ++ x ≡ v ++ y = same_quote (a ++ opening) (b ++ opening) (u ++ x) (v ++ y)
    (both_apart a opening h quiet) (both_apart b opening k quiet) (sym (grouped a u x) ∙ e ∙ grouped b v y) in
    let ends : x ≡ y = same_rest (reads (v ++ y)) s s x y (ap reads (sym tails) ∙ m) n in
    append_cancel_right u v y (ap (λ (l : List ℕ). u ++ l) (sym ends) ∙ tails)

-- two texts of one bare item, the first of a text
same_at : (version : Version) (read : ReadBareItem) (a b at front x y : List ℕ) → HasNoQuote a → HasNoQuote b
    → IsBareText version (input_value read) at → IsBareText version (input_value read) front
    → a ++ at ++ x ≡ b ++ front ++ y → IsBorrowedIfPlain read at → IsBorrowedIfPlain read front
same_at version (bare.String text) a b at front x y h k m n e plain =
    let left : at ≡ double_quote ∷ m.back = m.text ∙ ap (λ (l : List ℕ). l ++ m.back) m.first in
    let right : front ≡ double_quote ∷ n.back = n.text ∙ ap (λ (l : List ℕ). l ++ n.back) n.first in
    let s = read_text text in
    let same : m.back ≡ n.back = same_quoted string_at [] s a b m.back n.back x y refl h k
    (string_complete s m.back x m.second) (string_complete s n.back y n.second)
    (sym (ap (λ (l : List ℕ). a ++ l ++ x) left) ∙ e ∙ ap (λ (l : List ℕ). b ++ l ++ y) right) in
    subst (IsBorrowedIfPlain (bare.String text)) (left ∙ ap (λ (l : List ℕ). double_quote ∷ l) same ∙ sym right) plain
same_at version (bare.DisplayString text) a b at front x y h k m n e plain =
    let left : at ≡ percent_sign ∷ double_quote ∷ m.1.back = m.1.text ∙ ap (λ (l : List ℕ). l ++ m.1.back) m.1.first in
    let right : front ≡ percent_sign ∷ double_quote ∷ n.1.back = n.1.text ∙ ap (λ (l : List ℕ). l ++ n.1.back) n.1.first in
    let s = cow_str_bytes text in
    let same : m.1.back ≡ n.1.back = same_quoted display_at (percent_sign ∷ []) s a b m.1.back n.1.back x y refl h k
    (display_complete s m.1.back x m.1.second) (display_complete s n.1.back y n.1.second)
    (sym (ap (λ (l : List ℕ). a ++ l ++ x) left) ∙ e ∙ ap (λ (l : List ℕ). b ++ l ++ y) right) in
    subst (IsBorrowedIfPlain (bare.DisplayString text))
    (left ∙ ap (λ (l : List ℕ). percent_sign ∷ double_quote ∷ l) same ∙ sym right) plain
same_at version read a b at front x y h k m n e plain = tt

-- the same, where the first text is that of the value as it was read; true may have none
same_read : (version : Version) (read : ReadBareItem) (a b at front x y : List ℕ) → HasNoQuote a → HasNoQuote b
    → IsReadAs version read at → IsBareText version (input_value read) front → a ++ at ++ x ≡ b ++ front ++ y
    → IsBorrowedIfPlain read front
same_read version read a b at front x y h k (inl m, plain) n e = same_at version read a b at front x y h k m n e plain
same_read version (bare.String text) a b at front x y h k (inr m, plain) n e = absurd (let no = m.0 in cc)
same_read version (bare.DisplayString text) a b at front x y h k (inr m, plain) n e = absurd (let no = m.0 in cc)
same_read version read a b at front x y h k (inr m, plain) n e = tt

-- an accepted item begins with its bare item
accepted_begins : (version : Version) (t : List ℕ) (raw : RawItem) → IsFieldText version item_field raw t
    → BeginsWithLongest version raw.bare t
accepted_begins version t raw accepted =
    let first = visited_first version t (bare_item raw.bare) (parameters_events raw.parameters)
    (ap (visited (events item_field)) (whole_accepted version item_field t raw accepted)) in
    let same : first.0 ≡ raw.bare = let e = first.1 in cc in
    subst (λ (v : BareValue). BeginsWithLongest version v t) same first.2

-- The visitor received the bare item of the field as parsed. It is borrowed unless its text has an escape.
pub first_as_read : {S O : Type 0} (takes : S → TreeEvent → S → Type 0) (takes_read : S → Event → S → Type 0)
    (finishes : S → O → Type 0) (version : Version) (t : List ℕ) (from : S) (out : O)
    → HasEventsRead takes takes_read finishes version item_field t from out
    → HasBorrowed takes takes_read finishes version t from out
first_as_read {S} {O} takes takes_read finishes version t from out h =
    on h.holds.0 h.holds.1 h.holds.2 h.holds.3 h.holds.4 h.holds.5
  where
    raw : RawItem
    raw = h.raw

    on : (es : List Event) → map event_of es ≡ item_events raw → AreReadFrom version es t → (last : S)
        → FoldsTo (λ s e to. takes s (event_of e) to × takes_read s e to) from es last → finishes last out
        → HasBorrowed takes takes_read finishes version t from out
    on [] e k last folds ends = absurd cc
    on (event.BareItem read ∷ es) e k last folds ends =
        let same : input_value read ≡ raw.bare = cc in
        let rest_same : map event_of es ≡ parameters_events raw.parameters = cc in
        let begins = subst (λ (v : BareValue). BeginsWithLongest version v t) (sym same)
        (accepted_begins version t raw h.accepted) in
        let f = begins in (
          read,
          raw.parameters,
          subst (λ (v : BareValue). IsFieldText version item_field (record { bare = v; parameters = raw.parameters }) t)
              (sym same) h.accepted,
          begins,
          same_read version read k.0 f.spaces k.1 f.front k.2 f.rest k.4 (run_apart is_space f.spaces refl f.blank) k.5
              f.means (sym k.3 ∙ f.text),
          folds.0,
          folds.1.1,
          (
            last,
            subst (λ (es : List TreeEvent). FoldsTo takes folds.0 es last) rest_same
                (folded takes takes_read es folds.0 last folds.2),
            ends,
          ),
        )
    on (event.Entry ∷ es) e k last folds ends = absurd cc
    on (event.KeyedEntry key ∷ es) e k last folds ends = absurd cc
    on (event.Item ∷ es) e k last folds ends = absurd cc
    on (event.InnerList ∷ es) e k last folds ends = absurd cc
    on (event.Parameter key read ∷ es) e k last folds ends = absurd cc
    on (event.ParametersEnd ∷ es) e k last folds ends = absurd cc
    on (event.InnerListEnd ∷ es) e k last folds ends = absurd cc
