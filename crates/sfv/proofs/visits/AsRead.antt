-- The results of parsing functions with a visitor that receives the events as read: by the parts of a reading.
use Rattle.std.proofs.Common.{◌≡◌, ℕ, true, false, Bool, List, [], ◌∷◌, ◌++◌, Result, Ok, Err, Some, None, refl, sym}
use Rattle.std.proofs.Common.{ap, subst, ◌∙◌, ◌<◌, ◌+◌, cond, append_assoc, flat_map, length, inl, inr, OnOk, IfOk}
use Rattle.std.proofs.Common.{IfErr, map, is_some, append-nil}
use Rattle.std.specs.{List.FoldsTo, Prelude.⊤, declared.alloc.Global.Global}
use Rattle.sfv_spec.specs.Events.{TreeEvent, bare_item, parameters_end, begins_item, begins_inner_list, keyed_entry}
use Rattle.sfv_spec.specs.Events.{inner_list_end, parameters_events, item_events, inner_item_events, member_events}
use Rattle.sfv_spec.specs.{Events.{keyed_events, events}, Values.{boolean, RawField}}
use Rattle.sfv_spec.proofs.{Marks.{semicolon, equals_sign, left_parenthesis, is_space}, Structure.one_field_lem}
use Rattle.sfv_model.specs.{Bare.bare_at, Fields.{members_at, read_field}}
use Rattle.sfv_model.specs.Items.{key_at, parameter_at, parameters_at, item_at}
use Rattle.sfv_model.specs.Members.{inner_items_at, inner_at, member_at, member_value_at, keyed_at}
use Rattle.sfv_model.specs.Reader.{Answer, Reader, byte, first, led, span}
use Rattle.sfv_model.proofs.{LongestBareItem.bare_is_exact, Theorems.read_is_accepted}
use Rattle.sfv_model.proofs.Types.{UnterminatedInnerList, TrailingCharactersAfterParsedValue}
use Rattle.sfv_model.proofs.sound.{Combinators.sound_at, Items.Sound-key}
use Rattle.sfv_base.specs.{Errors.error_of, declared.error.ParseError.TheVariants.{Syntax, Visitor}}
use Rattle.sfv_values.specs.{BareItems.input_value, CheckedTexts.text_of, KeyText.KeyRef}
use Rattle.sfv_tree.specs.{Events.event_of, ProvidedVisitors.ReadBareItem}
use Rattle.sfv_tree.specs.declared.visitor.{Event.Event, Visitor.Ghosts}
use Rattle.sfv.specs.Parsers.{version_of, input_of, HasNoQuote, AreReadFrom, IsEventText, Receives, ReceivesAsReadBy}
use Rattle.sfv.specs.Types.{FieldKind, item_field, Version, Error, ParseError}
use Rattle.sfv.specs.declared.parser.{Parser.Parser, cursor.Cursor.Cursor, item.ReadParameter.ReadParameter}
use Rattle.sfv.specs.parser.AsRead.{Passes, IsNextValue, IsNextParameter, IsNextEvent, TakesNext, FailsNext}
use Rattle.sfv.specs.parser.AsRead.{VisitsAsRead, VisitsFieldAsRead}
use Rattle.sfv.specs.parser.Cursor.{kept, kept_version, version, rest, input, ReadsOrOutOfMemory, TakesIf, IsErrorOf}
use Rattle.sfv.specs.parser.Cursor.{IsFaultOf}
use Rattle.sfv.specs.parser.Members.{after_begin, member_parts, one_member_at, field_of, MemberValue}
use Rattle.sfv.specs.parser.{Quoted.IsBorrowedUnlessEscaped, Values.read_pair}
use Rattle.sfv.specs.parser.Visits.{Visits, VisitsAnswer, IsOfVisitor}
use Rattle.sfv.proofs.{reads.Delimiters.at_end, visits.BorrowedBareItem.lent_front}
use Rattle.sfv.proofs.visits.Fields.{item_fails, finish_failed, finished_at, took_whole, members_fail, members_finish}
use Rattle.sfv.proofs.visits.InnerLists.{inner_list_visits, list_member_visits, item_member_visits, items_fail}
use Rattle.sfv.proofs.visits.InnerLists.{end_fails, list_begin_fails, item_begin_fails}
use Rattle.sfv.proofs.visits.Keyed.{value_visits, true_visits, keyed_visits, true_begin_fails, true_bare_fails}
use Rattle.sfv.proofs.visits.Keyed.{key_fails, keyed_fails}
use Rattle.sfv.proofs.visits.Loops.{Loop, VisitedSoFar, Wants, IsFirst, begun, more, ended as loop_ended, all_events}
use Rattle.sfv.proofs.visits.Loops.{first_fails, one_fails, delimiter_fails, shorter, members_loop, turn_shortens}
use Rattle.sfv.proofs.visits.Parameters.{VisitedParameters, visited_none, visited_more, visited_error, end_visits}
use Rattle.sfv.proofs.visits.Parameters.{parameter_failed, of_visitor, item_visits, bare_faulty, bare_failed}
use Rattle.sfv.proofs.visits.Parts.{led_visits, led_fails, start_visits}
use Rattle.sfv.proofs.visits.Passed.{Passing, passes, passes_none, passes_same, passes_then, passes_if, then_if}
use Rattle.sfv.proofs.visits.{Passed.passes_spaces, Taken.no_items_visited, Whole.{field_done, field_trailing_error}}
use Rattle.sfv_values.specs.declared.bare.GenericBareItem.TheVariants as bare
use Rattle.sfv_tree.specs.declared.visitor.Event.TheVariants as event

-- ---- the text of a value

-- after bytes without a quote
pub next_after : (version : Version) (read : ReadBareItem) (t r q : List ℕ) → Passes t r → IsNextValue version read r q
    → IsNextValue version read t q
next_after version read t r q h n =
    let all = passes_then t r (n.at ++ q) h (n.gap, n.text ∙ append_assoc n.gap n.at q, n.quiet) in
    record { gap = all.0; at = n.at; text = all.1 ∙ sym (append_assoc all.0 n.at q); quiet = all.2; means = n.means }

-- a bare item that was just consumed
pub bare_next : (read : ReadBareItem) (before after : Cursor)
    → bare_at (version before) (rest before) ≡ Ok (input_value read, rest after)
    → IsBorrowedUnlessEscaped read before after → IsNextValue (version before) read (rest before) (rest after)
bare_next read before after here lent =
    let exact = bare_is_exact.0 (version before) (rest before) (input_value read) (rest after) here in
    record {
      gap = [];
      at = exact.front;
      text = exact.text;
      quiet = refl;
      means = (inl exact.means, lent_front (version before) read before after exact.front exact.text exact.means lent);
    }

-- the value true without a text
pub true_next : (version : Version) (t r : List ℕ) → TakesIf (byte equals_sign) false t r
    → IsNextValue version (bare.Boolean true) t r
true_next version t r takes = record {
  gap = [];
  at = [];
  text = sym takes.0;
  quiet = refl;
  means = (inr (refl, refl), tt);
}

-- a bare item after an equals sign
pub value_next : (before middle after : Cursor) (result : Result ReadBareItem Error) → kept middle ≡ kept before
    → TakesIf (byte equals_sign) true (rest before) (rest middle)
    → ReadsOrOutOfMemory input_value middle after result (bare_at (version middle))
    → IfOk result (λ read. IsBorrowedUnlessEscaped read middle after)
    → IfOk result (λ read. IsNextValue (version before) read (rest before) (rest after))
value_next before middle after (Ok read) same takes parsed lent = next_after _ _ _ _ _
    (passes_if (byte equals_sign) true _ _ refl takes) (subst (λ v. IsNextValue v read (rest middle) (rest after))
    (ap kept_version same) (bare_next _ middle after parsed.0 lent))
value_next before middle after (Err e) same takes parsed lent = tt

-- a key that was just consumed
pub key_text : (t q key : List ℕ) → key_at t ≡ Ok (key, q) → t ≡ key ++ q
key_text t q key read =
    let h = sound_at Sound-key t (Ok (key, q)) read in
    h.1 ∙ ap (λ (l : List ℕ). l ++ q) h.2.1

-- a parameter: after the semicolon and spaces, the key and its value
pub parameter_next : (version version' : Version) (key : KeyRef) (read : ReadBareItem) (t t1 t2 t3 q s : List ℕ)
    → version' ≡ version → TakesIf (byte semicolon) true t t1 → span is_space t1 ≡ Ok (s, t2)
    → key_at t2 ≡ Ok (text_of key, t3) → IsNextValue version' read t3 q → IsNextParameter version key read t q
parameter_next version version' key read t t1 t2 t3 q s same takes skipped keyed next =
    let h = passes_then _ _ _ (passes_if (byte semicolon) true _ _ refl takes) (passes_spaces _ _ _ skipped) in
    record {
      gap = h.0;
      after = t3;
      text = h.1 ∙ ap (λ (l : List ℕ). h.0 ++ l) (key_text _ _ _ keyed) ∙ sym (append_assoc h.0 (text_of key) t3);
      quiet = h.2;
      value = subst (λ v. IsNextValue v read t3 q) same next;
    }

-- the same as the text of an event
parameter_event_next : (version : Version) (key : KeyRef) (read : ReadBareItem) (t r q : List ℕ) → Passes t r
    → IsNextParameter version key read r q → IsNextEvent version (event.Parameter key read) t q
parameter_event_next version key read t r q h n =
    let m = n.value in
    let all = passes_then _ _ _ h (n.gap, n.text ∙ append_assoc n.gap (text_of key) n.after, n.quiet) in
    let at : List ℕ = text_of key ++ (m.gap ++ m.at) in
    let same : text_of key ++ n.after ≡ at ++ q = ap (λ (l : List ℕ). text_of key ++ l) m.text
    ∙ sym (append_assoc (text_of key) (m.gap ++ m.at) q) in (
      all.0,
      at,
      all.1 ∙ ap (λ (l : List ℕ). all.0 ++ l) same ∙ sym (append_assoc all.0 at q),
      all.2,
      record {
        front = text_of key;
        back = m.gap ++ m.at;
        text = refl;
        first = refl;
        second = record { front = m.gap; back = m.at; text = refl; first = m.quiet; second = m.means };
      },
    )

-- ---- results

-- a result is an error, or its value has this property
always : {A E P : Type 0} (r : Result A E) → P → OnOk r P
always (Ok x) p = p
always (Err e) p = tt

module _ {S O E : Type 0} (v : Ghosts S O E) where
  abbrev Next : Version → S × List ℕ → TreeEvent → S × List ℕ → Type 0
  Next version = TakesNext v version

  abbrev Stop : Version → S × List ℕ → TreeEvent → E → Type 0
  Stop version = FailsNext v version

  -- an event whose text comes next
  step_next : (version : Version) (read : Event) (from to : S) (t r : List ℕ) → IsNextEvent version read t r
      → v.takes from (event_of read) to → v.takes_read from read to → Next version (from, t) (event_of read) (to, r)
  step_next version read from to t r n taken taken_read = (read, refl, taken, taken_read, n)

  -- an event without a text
  step : (version : Version) (read : Event) (from to : S) (t : List ℕ) → IsEventText version read []
      → v.takes from (event_of read) to → v.takes_read from read to → Next version (from, t) (event_of read) (to, t)
  step version read from to t none taken taken_read = step_next _ _ _ _ _ _ ([], [], refl, refl, none) taken taken_read

  -- the visitor fails at an event whose text comes next
  stop_next : (version : Version) (read : Event) (from : S) (t r : List ℕ) (error : ParseError E)
      → IsNextEvent version read t r → IsOfVisitor (v.fails from (event_of read)) error
      → IsOfVisitor (v.fails_read from read) error → IsOfVisitor (Stop version (from, t) (event_of read)) error
  stop_next version read from t r (Syntax e) n failed failed_read = absurd failed
  stop_next version read from t r (Visitor fault) n failed failed_read = (read, refl, failed, failed_read, r, n)

  -- the same at an event without a text
  stop : (version : Version) (read : Event) (from : S) (t : List ℕ) (error : ParseError E) → IsEventText version read []
      → IsOfVisitor (v.fails from (event_of read)) error → IsOfVisitor (v.fails_read from read) error
      → IsOfVisitor (Stop version (from, t) (event_of read)) error
  stop version read from t error none failed failed_read =
      stop_next version read from t t error ([], [], refl, refl, none) failed failed_read

  -- by a cursor that has kept its parser
  kept_next : {A : Type 0} (parts : A → List TreeEvent) (f : Version → Reader A) (middle after : Cursor)
      (from to : S × List ℕ) (j : Parser × Global) (r : Result (Unit {0}) (ParseError E)) → kept middle ≡ j
      → Visits (Next (version middle)) (Stop (version middle)) parts middle after from to r f
      → VisitsAnswer (Next (kept_version j)) (Stop (kept_version j)) parts j after from to r
      (f (kept_version j) (rest middle))
  kept_next parts f middle after from to j r same h = subst (λ (k : Parser × Global). VisitsAnswer
      (Next (kept_version k)) (Stop (kept_version k)) parts k after from to r (f (kept_version k) (rest middle))) same h

  under : {A : Type 0} (parts : A → List TreeEvent) (f : Version → Reader A) (middle after : Cursor)
      (from to : S × List ℕ) (r : Result (Unit {0}) (ParseError E)) (w : Version) → version middle ≡ w
      → Visits (Next (version middle)) (Stop (version middle)) parts middle after from to r f
      → Visits (Next w) (Stop w) parts middle after from to r f
  under parts f middle after from to r w same h =
      subst (λ w. Visits (Next w) (Stop w) parts middle after from to r f) same h

  abbrev Reads : {A : Type 0} → (A → List TreeEvent) → Cursor → Cursor → S → S → Result (Unit {0}) (ParseError E)
      → (Version → Reader A) → Type 0
  Reads parts before after from to r f = VisitsAsRead v parts before after from to r f

  -- an event without a text, and then a reading
  pub led_reads : {A : Type 0} (read : Event) (parts : A → List TreeEvent) (f : Version → Reader A)
      (before after : Cursor) (from middle to : S) (r : Result (Unit {0}) (ParseError E))
      → IsEventText (version before) read [] → v.takes from (event_of read) middle → v.takes_read from read middle
      → Reads parts before after middle to r f
      → Reads (λ x. event_of read ∷ parts x) before after from to r (λ version. led (event_of read ∷ []) (f version))
  led_reads read parts f before after from middle to r none taken taken_read h t pass =
      let k = h t pass in (
        k.0,
        k.1,
        led_visits (Next _) (Stop _) (event_of read) parts (f (version before)) (rest before) (from, t)
            (middle, t) (to, k.0) (kept before) after r (step (version before) _ _ _ t none taken taken_read) k.2,
      )

  -- the visitor fails at this event
  pub led_stops : {A : Type 0} (read : Event) (parts : A → List TreeEvent) (f : Version → Reader A)
      (before after : Cursor) (from to : S) (error : ParseError E) → IsEventText (version before) read []
      → IsOfVisitor (v.fails from (event_of read)) error → IsOfVisitor (v.fails_read from read) error
      → Reads (λ x. event_of read ∷ parts x) before after from to (Err error)
      (λ version. led (event_of read ∷ []) (f version))
  led_stops read parts f before after from to error none failed failed_read t pass = (
    t,
    tt,
    led_fails _ _ _ _ _ _ _ _ (kept before) after _ (stop _ _ _ _ _ none failed failed_read),
  )

  -- ---- parameters and items

  -- the parameters so far
  abbrev pub ReadParameters : Version → List ℕ → List ℕ → S → S → Type 0
  ReadParameters version start now from to = (t : List ℕ) → Passes t start
      → (r : List ℕ) × Passes r now × VisitedParameters (Next version) version start now (from, t) (to, r)

  pub read_none : (version : Version) (start : List ℕ) (from : S) → ReadParameters version start start from from
  read_none version start from t pass = (t, pass, visited_none (Next version) version start (from, t))

  pub read_more : (version version' : Version) (start now r : List ℕ) (p : ReadParameter) (from middle to : S)
      → version' ≡ version
      → ReadParameters version start now from middle → parameter_at version now ≡ Ok (Some (read_pair p), r)
      → v.takes middle (event_of (event.Parameter p.key p.value)) to
      → v.takes_read middle (event.Parameter p.key p.value) to
      → IsNextParameter version' p.key p.value now r → ReadParameters version start r from to
  read_more version version' start now r p from middle to same h parsed taken taken_read next t pass =
      let k = h t pass in (
        r,
        passes_none _,
        visited_more _ _ _ _ _ _ _ _ _ _ k.2 parsed (step_next _ _ _ _ _ _ (parameter_event_next _ _ _ _ _ _ k.1
            (subst (λ w. IsNextParameter w p.key p.value now r) same next)) taken taken_read),
      )

  -- a parameter is faulty
  pub parameter_error : (before now after : Cursor) (from middle : S) (e : Error) → kept now ≡ kept before
      → ReadParameters (version before) (rest before) (rest now) from middle
      → IsErrorOf (input now) e (parameter_at (version now) (rest now))
      → Reads parameters_events before after from middle (Err (Syntax e)) parameters_at
  parameter_error before now after from middle e same h error t pass =
      let k = h t pass in (k.0, tt, visited_error _ _ _ _ _ _ _ _ same k.2 error)

  -- the visitor fails at a parameter
  pub parameter_stops : (before after : Cursor) (version' : Version) (now r : List ℕ) (p : ReadParameter)
      (from middle to : S) (error : ParseError E) → version' ≡ version before → ReadParameters (version before)
      (rest before) now from middle → parameter_at (version before) now ≡ Ok (Some (read_pair p), r)
      → IsOfVisitor (v.fails middle (event_of (event.Parameter p.key p.value))) error
      → IsOfVisitor (v.fails_read middle (event.Parameter p.key p.value)) error
      → IsNextParameter version' p.key p.value now r
      → Reads parameters_events before after from to (Err error) parameters_at
  parameter_stops before after version' now r p from middle to error same h parsed failed failed_read next t pass =
      let k = h t pass in
      let read = event.Parameter p.key p.value in
      let next = parameter_event_next _ _ _ _ _ _ k.1
      (subst (λ w. IsNextParameter w p.key p.value now r) same next) in (
        t,
        tt,
        of_visitor _ _ _ (kept before) after _ _ _ _ _ (stop_next _ _ _ _ r _ next failed failed_read)
            (λ fault failed. parameter_failed _ _ _ _ _ _ _ _ _ _ _ k.2 parsed failed),
      )

  -- after the last parameter
  pub end_reads : (before after : Cursor) (now : List ℕ) (from middle to : S)
      (r : Result (Unit {0}) (ParseError E)) → ReadParameters (version before) (rest before) now from middle
      → parameter_at (version before) now ≡ Ok (None, rest after) → rest after ≡ now → kept after ≡ kept before
      → OnOk r (v.takes middle parameters_end to) → OnOk r (v.takes_read middle event.ParametersEnd to)
      → IfErr r (IsOfVisitor (v.fails middle parameters_end))
      → IfErr r (IsOfVisitor (v.fails_read middle event.ParametersEnd))
      → Reads parameters_events before after from to r parameters_at
  end_reads before after now from middle to r h parsed same keeps taken taken_read failed failed_read t pass =
      let k = h t pass in (
        k.0,
        always _ (passes_then _ _ _ k.1 (passes_same _ _ same)),
        end_visits _ _ _ _ _ _ _ _ _ after _ k.2 parsed keeps (on_ok r k.0 taken taken_read)
            (on_err r k.0 failed failed_read),
      )
    where
      on_ok : (r : Result (Unit {0}) (ParseError E)) (q : List ℕ) → OnOk r (v.takes middle parameters_end to)
          → OnOk r (v.takes_read middle event.ParametersEnd to)
          → OnOk r (Next (version before) (middle, q) parameters_end (to, q))
      on_ok (Ok u) q taken taken_read = step (version before) event.ParametersEnd middle to q refl taken taken_read
      on_ok (Err e) q taken taken_read = tt

      on_err : (r : Result (Unit {0}) (ParseError E)) (q : List ℕ) → IfErr r (IsOfVisitor (v.fails middle parameters_end))
          → IfErr r (IsOfVisitor (v.fails_read middle event.ParametersEnd))
          → IfErr r (IsOfVisitor (Stop (version before) (middle, q) parameters_end))
      on_err (Ok u) q failed failed_read = tt
      on_err (Err e) q failed failed_read = stop (version before) event.ParametersEnd middle q e refl failed failed_read

  -- the text of a bare item that was just consumed, as that of an event
  item_next : (before between : Cursor) (read : ReadBareItem) (t : List ℕ) → Passes t (rest before)
      → bare_at (version before) (rest before) ≡ Ok (input_value read, rest between)
      → IsBorrowedUnlessEscaped read before between
      → IsNextEvent (version before) (event.BareItem read) t (rest between)
  item_next before between read t pass here lent =
      let n = next_after (version before) read t (rest before) (rest between) pass (bare_next read before between here lent)
      in (n.gap, n.at, n.text, n.quiet, n.means)

  -- the bare item is faulty
  pub item_error : (before after : Cursor) (from : S) (e : Error)
      → IsErrorOf (input before) e (bare_at (version before) (rest before))
      → Reads item_events before after from from (Err (Syntax e)) item_at
  item_error before after from e h t pass = (t, tt, bare_faulty _ _ _ _ _ _ h)

  -- the visitor fails at the bare item
  pub item_stops : (before between after : Cursor) (read : ReadBareItem) (from to : S) (error : ParseError E)
      → bare_at (version before) (rest before) ≡ Ok (input_value read, rest between)
      → IsBorrowedUnlessEscaped read before between → IsOfVisitor (v.fails from (bare_item (input_value read))) error
      → IsOfVisitor (v.fails_read from (event.BareItem read)) error
      → Reads item_events before after from to (Err error) item_at
  item_stops before between after read from to error here lent failed failed_read t pass = (
    t,
    tt,
    of_visitor (Next (version before)) (Stop (version before)) item_events (kept before) after (from, t) (to, t)
        (Stop (version before) (from, t) (bare_item (input_value read))) error (item_at (version before) (rest before))
        (stop_next (version before) (event.BareItem read) from t (rest between) error
        (item_next before between read t pass here lent) failed failed_read)
        (λ fault failed. bare_failed (Next (version before)) (Stop (version before)) (version before) (rest before)
        (rest between) (input_value read) (from, t) fault here failed),
  )

  -- a bare item and its parameters
  pub item_reads : (before between after : Cursor) (read : ReadBareItem)
      (from middle to : S) (r : Result (Unit {0}) (ParseError E)) → kept between ≡ kept before
      → bare_at (version before) (rest before) ≡ Ok (input_value read, rest between)
      → IsBorrowedUnlessEscaped read before between → v.takes from (bare_item (input_value read)) middle
      → v.takes_read from (event.BareItem read) middle → Reads parameters_events between after middle to r parameters_at
      → Reads item_events before after from to r item_at
  item_reads before between after read from middle to r same here lent taken taken_read h t pass =
      let k = h (rest between) (passes_none (rest between)) in (
        k.0,
        k.1,
        item_visits (Next (version before)) (Stop (version before)) (version before) (rest before) (rest between)
            (input_value read) (from, t) (middle, rest between) (to, k.0) (kept before) after r here
            (step_next (version before) (event.BareItem read) from middle t (rest between)
            (item_next before between read t pass here lent) taken taken_read)
            (kept_next parameters_events parameters_at between after (middle, rest between) (to, k.0) (kept before) r
            same k.2),
      )

  -- ---- loops

  -- what was read so far, from the start to here
  abbrev pub ReadSoFar : {A : Type 0} → Loop A → Cursor → Answer (List A) → Cursor → S → S → Type 0
  ReadSoFar l start total now from to = (t : List ℕ) → Passes t (rest start) → (r : List ℕ) × Passes r (rest now)
      × VisitedSoFar (Next (version start)) l start total now (from, t) (to, r)

  module _ {A : Type 0} (l : Loop A) (start : Cursor) (total : Answer (List A)) where
    abbrev First : Cursor → Type 0
    First middle = IsFirst {E = Unit {0}} (Next (version start)) (λ s e _. ⊤) l start total middle

    -- the result of the loop
    abbrev Ends : Cursor → S → S → Result (Unit {0}) (ParseError E) → Type 0
    Ends after from to r = (t : List ℕ) → Passes t (rest start) → (q : List ℕ) × OnOk r (Passes q (rest after))
        × VisitsAnswer (Next (version start)) (Stop (version start)) (all_events l.parts) (kept start) after (from, t)
        (to, q) r total

    pub begun_reads : (middle after : Cursor) (from to : S) → Passes (rest start) (rest middle) → First middle
        → Reads l.parts middle after from to (Ok tt) l.one → ReadSoFar l start total after from to
    begun_reads middle after from to skipped first h t pass =
        let k = h t (passes_then t (rest start) (rest middle) pass skipped) in (
          k.0,
          k.1,
          begun (Next (version start)) (Stop (version start)) l start total middle after (from, t) (to, k.0) first
              (under l.parts l.one middle after (from, t) (to, k.0) (Ok tt) (version start) (ap kept_version first.1) k.2),
        )

    -- the first part ends with an error
    pub first_stops : (middle after : Cursor) (from to : S) (error : ParseError E) → Passes (rest start) (rest middle)
        → First middle → Reads l.parts middle after from to (Err error) l.one → Ends after from to (Err error)
    first_stops middle after from to error skipped first h t pass =
        let k = h t (passes_then _ _ _ pass skipped) in (
          k.0,
          tt,
          first_fails _ _ l start _ middle after _ _ _ first (under l.parts l.one middle after
              (from, t) (to, k.0) (Err error) (version start) (ap kept_version first.1) k.2),
        )

    pub more_reads : (now middle after : Cursor) (from at to : S) → Passing l.delimiter
        → ReadSoFar l start total now from at → Wants l true now middle → Reads l.parts middle after at to (Ok tt) l.one
        → ReadSoFar l start total after from to
    more_reads now middle after from at to passing h wanted one t pass =
        let k = h t pass in
        let skipped = passes l.delimiter (rest now) (rest middle) true passing wanted.0 in
        let n = one k.0 (passes_then k.0 (rest now) (rest middle) k.1 skipped) in (
          n.0,
          n.1,
          more (Next (version start)) (Stop (version start)) l start total now middle after (from, t) (at, k.0) (to, n.0)
              k.2 wanted (under l.parts l.one middle after (at, k.0) (to, n.0) (Ok tt) (version start)
              (ap kept_version (wanted.1 ∙ k.2.same)) n.2),
        )

    -- a further part ends with an error
    pub one_stops : (now middle after : Cursor) (from at to : S) (error : ParseError E) → Passing l.delimiter
        → ReadSoFar l start total now from at → Wants l true now middle
        → Reads l.parts middle after at to (Err error) l.one → Ends after from to (Err error)
    one_stops now middle after from at to error passing h wanted one t pass =
        let k = h t pass in
        let skipped = passes _ _ _ _ passing wanted.0 in
        let n = one k.0 (passes_then _ _ _ k.1 skipped) in (
          n.0,
          tt,
          one_fails _ _ _ _ _ _ middle after _ _ _ _ k.2 wanted (under l.parts l.one middle after
              (at, k.0) (to, n.0) (Err error) (version start) (ap kept_version (wanted.1 ∙ k.2.same)) n.2),
        )

    -- the delimiter is faulty
    pub delimiter_error : (now after : Cursor) (from to : S) (e : Error) → ReadSoFar l start total now from to
        → IsFaultOf (input now) e (l.delimiter (rest now)) → Ends after from to (Err (Syntax e))
    delimiter_error now after from to e h fault t pass =
        let k = h t pass in (
          k.0,
          tt,
          delimiter_fails (Next (version start)) (Stop (version start)) l start total now after (from, t) (to, k.0) e k.2
              fault,
        )

    pub ended_reads : (now after : Cursor) (from to : S) → Passing l.delimiter → ReadSoFar l start total now from to
        → Wants l false now after → Ends after from to (Ok tt)
    ended_reads now after from to passing h wanted t pass =
        let k = h t pass in
        let skipped = passes l.delimiter (rest now) (rest after) false passing wanted.0 in (
          k.0,
          passes_then k.0 (rest now) (rest after) k.1 skipped,
          loop_ended (Next (version start)) (Stop (version start)) l start total now after (from, t) (to, k.0) k.2 wanted,
        )

    -- What follows at this place: for `true`, a part, by what its parsing gives; for `false`, nothing.
    abbrev pub Awaits : Bool → Cursor → S → S → Type 0
    Awaits true middle from at = ((after : Cursor) (to : S) → Reads l.parts middle after at to (Ok tt) l.one
        → ReadSoFar l start total after from to) × ((after : Cursor) (to : S) (error : ParseError E)
        → Reads l.parts middle after at to (Err error) l.one → Ends after from to (Err error))
    Awaits false middle from at = Ends middle from at (Ok tt)

    pub awaits_first : (middle : Cursor) (from : S) → Passes (rest start) (rest middle) → First middle
        → Awaits true middle from from
    awaits_first middle from skipped first = (
      λ after to h. begun_reads middle after from to skipped first h,
      λ after to error h. first_stops middle after from to error skipped first h,
    )

    pub awaits_next : (b : Bool) (now middle : Cursor) (from at : S) → Passing l.delimiter
        → ReadSoFar l start total now from at → Wants l b now middle → Awaits b middle from at
    awaits_next true now middle from at passing h wanted = (
      λ after to one. more_reads now middle after from at to passing h wanted one,
      λ after to error one. one_stops now middle after from at to error passing h wanted one,
    )
    awaits_next false now middle from at passing h wanted = ended_reads now middle from at passing h wanted

  -- a member and the delimiter after it make the rest shorter
  pub turn_shorter : (keyed here b : Bool) (middle now after : Cursor) (at to : S) → here ≡ true
      → Reads (member_parts keyed) middle now at to (Ok tt) (one_member_at keyed)
      → Wants (members_loop keyed) b now after
      → cond b (1 + length (rest after)) 0 < cond here (1 + length (rest middle)) 0
  turn_shorter keyed true b middle now after at to here one wanted =
      let n = one (rest middle) (passes_none (rest middle)) in
      turn_shortens keyed (version middle) b (rest middle) (rest now) (rest after) n.2.0 n.2.1 wanted.0
  turn_shorter keyed false b middle now after at to here one wanted = absurd cc

  -- a further part makes the rest shorter
  pub shorter_reads : {A : Type 0} (l : Loop A) (now middle after : Cursor) (at to : S) → Wants l true now middle
      → Reads l.parts middle after at to (Ok tt) l.one → length (rest after) < length (rest now)
  shorter_reads l now middle after at to wanted one =
      let n = one (rest middle) (passes_none (rest middle)) in
      shorter (Next (version middle)) (Stop (version middle)) l now middle after (at, rest middle) (to, n.0) wanted n.2

  -- ---- members

  -- an inner list that the end of the input cuts off before its items
  pub no_items_read : (before : Cursor) (from : S) → is_some (first (rest before)) ≡ false
      → Reads (λ is. flat_map inner_item_events is) before before from from
      (Err (Syntax (error_of UnterminatedInnerList (Some before.index)))) inner_items_at
  no_items_read before from none t pass = (t, tt, no_items_visited (Next (version before)) before (from, t) none)

  -- the items end with an error
  pub items_stop : (before after : Cursor) (from to : S) (error : ParseError E)
      → Reads (λ is. flat_map inner_item_events is) before after from to (Err error) inner_items_at
      → Reads after_begin before after from to (Err error) inner_at
  items_stop before after from to error h t pass =
      let k = h t pass in (k.0, tt, items_fail _ _ _ _ _ _ (kept before) after _ k.2)

  -- the visitor fails at the end of the items
  pub end_stops : (before between after : Cursor) (from middle to : S) (error : ParseError E)
      → Reads (λ is. flat_map inner_item_events is) before between from middle (Ok tt) inner_items_at
      → IsOfVisitor (v.fails middle inner_list_end) error → IsOfVisitor (v.fails_read middle event.InnerListEnd) error
      → Reads after_begin before after from to (Err error) inner_at
  end_stops before between after from middle to error items failed failed_read t pass =
      let i = items t pass in (
        t,
        tt,
        end_fails _ _ _ _ _ _ _ _ _ (kept before) after _ i.2.1 i.2.2 (stop _ _ _ _ _ refl failed failed_read),
      )

  -- the items of an inner list, their end and the parameters
  pub inner_list_reads : (before between after : Cursor) (from middle end to : S) (r : Result (Unit {0}) (ParseError E))
      → Reads (λ is. flat_map inner_item_events is) before between from middle (Ok tt) inner_items_at
      → v.takes middle inner_list_end end → v.takes_read middle event.InnerListEnd end
      → Reads parameters_events between after end to r parameters_at → Reads after_begin before after from to r inner_at
  inner_list_reads before between after from middle end to r items taken taken_read h t pass =
      let i = items t pass in
      let k = h i.0 i.1 in (
        k.0,
        k.1,
        inner_list_visits _
            (Stop _) _ _ _ _ _ _ _ (to, k.0) (kept before) after _ i.2.1 i.2.2 (step _ _ _ _ _ refl taken taken_read)
            (kept_next parameters_events parameters_at between after (end, i.0) (to, k.0) (kept before) _ i.2.3 k.2),
      )

  pub list_member_reads : (before between after : Cursor) (from middle to : S) (r : Result (Unit {0}) (ParseError E))
      → kept between ≡ kept before → TakesIf (byte left_parenthesis) true (rest before) (rest between)
      → v.takes from begins_inner_list middle → v.takes_read from event.InnerList middle
      → Reads after_begin between after middle to r inner_at → Reads member_events before after from to r member_at
  list_member_reads before between after from middle to r same m taken taken_read h t pass =
      let k = h t (then_if (byte left_parenthesis) true _ _ _ refl pass m) in (
        k.0,
        k.1,
        list_member_visits (Next _) (Stop _) (version before) (rest before) (rest between) (from, t)
            (middle, t) (to, k.0) (kept before) after r m (step (version before) _ _ _ t refl taken taken_read)
            (kept_next after_begin inner_at between after (middle, t) (to, k.0) (kept before) _ same k.2),
      )

  -- the visitor fails at the start of an inner list
  pub list_member_stops : (before between after : Cursor) (from to : S) (error : ParseError E)
      → TakesIf (byte left_parenthesis) true (rest before) (rest between)
      → IsOfVisitor (v.fails from begins_inner_list) error → IsOfVisitor (v.fails_read from event.InnerList) error
      → Reads member_events before after from to (Err error) member_at
  list_member_stops before between after from to error m failed failed_read t pass = (
    t,
    tt,
    list_begin_fails _ _ _ _ _ _ _ (kept before) after _ m (stop _ _ _ _ _ refl failed failed_read),
  )

  pub item_member_reads : (before between after : Cursor) (from middle to : S) (r : Result (Unit {0}) (ParseError E))
      → kept between ≡ kept before → TakesIf (byte left_parenthesis) false (rest before) (rest between)
      → v.takes from begins_item middle → v.takes_read from event.Item middle
      → Reads item_events between after middle to r item_at → Reads member_events before after from to r member_at
  item_member_reads before between after from middle to r same m taken taken_read h t pass =
      let k = h t (then_if (byte left_parenthesis) false _ _ _ refl pass m) in (
        k.0,
        k.1,
        item_member_visits (Next _) (Stop _) (version before) (rest before) (rest between) (from, t)
            (middle, t) (to, k.0) (kept before) after r m (step (version before) _ _ _ t refl taken taken_read)
            (kept_next item_events item_at between after (middle, t) (to, k.0) (kept before) _ same k.2),
      )

  -- the visitor fails at the start of an item
  pub item_member_stops : (before between after : Cursor) (from to : S) (error : ParseError E)
      → TakesIf (byte left_parenthesis) false (rest before) (rest between)
      → IsOfVisitor (v.fails from begins_item) error → IsOfVisitor (v.fails_read from event.Item) error
      → Reads member_events before after from to (Err error) member_at
  item_member_stops before between after from to error m failed failed_read t pass = (
    t,
    tt,
    item_begin_fails _ _ _ _ _ _ _ (kept before) after _ m (stop _ _ _ _ _ refl failed failed_read),
  )

  pub value_reads : (before between after : Cursor) (from to : S) (r : Result (Unit {0}) (ParseError E))
      → kept between ≡ kept before → TakesIf (byte equals_sign) true (rest before) (rest between)
      → Reads member_events between after from to r member_at → Reads member_events before after from to r member_value_at
  value_reads before between after from to r same m h t pass =
      let k = h t (then_if (byte equals_sign) true t (rest before) (rest between) refl pass m) in (
        k.0,
        k.1,
        value_visits (Next (version before)) (Stop (version before)) (version before) (rest before) (rest between)
            (from, t) (to, k.0) (kept before) after r m
            (kept_next member_events member_at between after (from, t) (to, k.0) (kept before) r same k.2),
      )

  -- the value true without a text, as an event
  true_event : (version : Version) (t : List ℕ) → IsNextEvent version (event.BareItem (bare.Boolean true)) t t
  true_event version t = ([], [], refl, refl, (inr (refl, refl), tt))

  -- the item true, with its parameters
  pub true_reads : (before between after : Cursor) (from middle next to : S) (r : Result (Unit {0}) (ParseError E))
      → kept between ≡ kept before → TakesIf (byte equals_sign) false (rest before) (rest between)
      → v.takes from begins_item middle → v.takes_read from event.Item middle
      → v.takes middle (bare_item (boolean true)) next → v.takes_read middle (event.BareItem (bare.Boolean true)) next
      → Reads parameters_events between after next to r parameters_at
      → Reads member_events before after from to r member_value_at
  true_reads before between after from middle next to r same m taken taken_read bare_taken bare_read h t pass =
      let k = h t (then_if (byte equals_sign) false t (rest before) (rest between) refl pass m) in (
        k.0,
        k.1,
        true_visits (Next (version before)) (Stop (version before)) (version before)
            (rest before) (rest between) (from, t) (middle, t) (next, t) (to, k.0) (kept before) after r m
            (step (version before) event.Item from middle t refl taken taken_read) (step_next (version before)
            (event.BareItem (bare.Boolean true)) middle next t t (true_event (version before) t) bare_taken bare_read)
            (kept_next parameters_events parameters_at between after (next, t) (to, k.0) (kept before) r same k.2),
      )

  -- the visitor fails at the start of the item true
  pub true_begin_stops : (before between after : Cursor) (from to : S) (error : ParseError E)
      → TakesIf (byte equals_sign) false (rest before) (rest between)
      → IsOfVisitor (v.fails from begins_item) error → IsOfVisitor (v.fails_read from event.Item) error
      → Reads member_events before after from to (Err error) member_value_at
  true_begin_stops before between after from to error m failed failed_read t pass = (
    t,
    tt,
    true_begin_fails _ _ _ _ _ _ _ (kept before) after _ m (stop _ _ _ _ _ refl failed failed_read),
  )

  -- the visitor fails at its bare item
  pub true_bare_stops : (before between after : Cursor) (from middle to : S) (error : ParseError E)
      → TakesIf (byte equals_sign) false (rest before) (rest between) → v.takes from begins_item middle
      → v.takes_read from event.Item middle → IsOfVisitor (v.fails middle (bare_item (boolean true))) error
      → IsOfVisitor (v.fails_read middle (event.BareItem (bare.Boolean true))) error
      → Reads member_events before after from to (Err error) member_value_at
  true_bare_stops before between after from middle to error m taken taken_read failed failed_read t pass = (
    t,
    tt,
    true_bare_fails (Next (version before)) (Stop (version before)) (version before)
        (rest before) (rest between) (from, t) (middle, t) (to, t) (kept before) after error m
        (step (version before) event.Item from middle t refl taken taken_read) (stop_next (version before)
        (event.BareItem (bare.Boolean true)) middle t t error (true_event (version before) t) failed failed_read),
  )

  -- the text of a key that was just consumed, as that of an event
  key_next : (before between : Cursor) (key : KeyRef) (t : List ℕ) → Passes t (rest before)
      → key_at (rest before) ≡ Ok (text_of key, rest between)
      → IsNextEvent (version before) (event.KeyedEntry key) t (rest between)
  key_next before between key t pass keyed = (
    pass.0,
    text_of key,
    pass.1 ∙ ap (λ (l : List ℕ). pass.0 ++ l) (key_text (rest before) (rest between) (text_of key) keyed)
        ∙ sym (append_assoc pass.0 (text_of key) (rest between)),
    pass.2,
    refl,
  )

  -- the key is faulty
  pub key_error : (before after : Cursor) (from : S) (e : Error) → IsErrorOf (input before) e (key_at (rest before))
      → Reads keyed_events before after from from (Err (Syntax e)) keyed_at
  key_error before after from e h t pass = (
    t,
    tt,
    key_fails (Next (version before)) (Stop (version before)) (version before) (rest before) (kept before) e (from, t) h,
  )

  -- the visitor fails at the key
  pub keyed_stops : (before between after : Cursor) (key : KeyRef) (from to : S) (error : ParseError E)
      → key_at (rest before) ≡ Ok (text_of key, rest between)
      → IsOfVisitor (v.fails from (keyed_entry (text_of key))) error
      → IsOfVisitor (v.fails_read from (event.KeyedEntry key)) error
      → Reads keyed_events before after from to (Err error) keyed_at
  keyed_stops before between after key from to error keyed failed failed_read t pass = (
    t,
    tt,
    keyed_fails (Next (version before)) (Stop (version before)) (version before) (rest before) (rest between)
        (text_of key) (from, t) (to, t) (kept before) after error keyed
        (stop_next (version before) (event.KeyedEntry key) from t (rest between) error
        (key_next before between key t pass keyed) failed failed_read),
  )

  -- a member after its key
  pub keyed_reads : (before between after : Cursor) (key : KeyRef) (from middle to : S)
      (r : Result (Unit {0}) (ParseError E)) → kept between ≡ kept before
      → key_at (rest before) ≡ Ok (text_of key, rest between) → v.takes from (keyed_entry (text_of key)) middle
      → v.takes_read from (event.KeyedEntry key) middle → Reads member_events between after middle to r member_value_at
      → Reads keyed_events before after from to r keyed_at
  keyed_reads before between after key from middle to r same keyed taken taken_read h t pass =
      let k = h (rest between) (passes_none (rest between)) in (
        k.0,
        k.1,
        keyed_visits (Next (version before)) (Stop (version before)) (version before) (rest before) (rest between)
            (text_of key) (from, t) (middle, rest between) (to, k.0) (kept before) after r keyed
            (step_next (version before) (event.KeyedEntry key) from middle t (rest between)
            (key_next before between key t pass keyed) taken taken_read)
            (kept_next member_events member_value_at between after (middle, rest between) (to, k.0) (kept before) r same
            k.2),
      )

  -- ---- whole fields

  -- the events as a list
  pub events_read : (version : Version) (es : List TreeEvent) (from to : S × List ℕ) → FoldsTo (Next version) from es to
      → HasNoQuote to.1 → (read : List Event) × (map event_of read ≡ es) × AreReadFrom version read from.1
      × Receives v from.0 read to.0
  events_read version [] from to h last =
      ([], refl, subst HasNoQuote (ap (λ (p : S × List ℕ). p.1) (sym h)) last, ap (λ (p : S × List ℕ). p.0) h)
  events_read version (e ∷ es) from to h last =
      let k = events_read version es h.0 to h.2 last in
      let n = h.1.4 in (
        h.1.0 ∷ k.0,
        ap (λ (x : TreeEvent). x ∷ map event_of k.0) h.1.1 ∙ ap (λ (l : List TreeEvent). e ∷ l) k.1,
        (n.0, n.1, h.0.1, n.2, n.3, n.4, k.2),
        (h.0.0, (h.1.2, h.1.3), k.3),
      )

-- ---- whole fields

-- a text that ends after bytes without a quote
ended : (t r : List ℕ) → Passes t r → r ≡ [] → HasNoQuote t
ended t r h end = subst HasNoQuote (sym (h.1 ∙ ap (λ (l : List ℕ). h.0 ++ l) end ∙ append-nil h.0)) h.2

module _ {S O E : Type 0} (v : Ghosts S O E) (p : Parser) (alloc : Global) (from : S) where
  abbrev w : Version
  w = version_of p

  abbrev t : List ℕ
  t = input_of p

  abbrev Finishes : S × List ℕ → O → Type 0
  Finishes s out = v.finishes s.0 out

  abbrev FinishFails : S × List ℕ → E → Type 0
  FinishFails s error = v.finish_fails s.0 error

  abbrev FieldIs : FieldKind → Result O (ParseError E) → Type 0
  FieldIs kind r = VisitsFieldAsRead v p kind from r

  -- in the words of the definitions
  in_words : (kind : FieldKind) (raw : RawField kind) (last : S × List ℕ) (out : O)
      → read_field w kind t ≡ Ok raw → FoldsTo (TakesNext v w) (from, t) (events kind raw) last → HasNoQuote last.1
      → v.finishes last.0 out → ReceivesAsReadBy v p kind from out
  in_words kind raw last out whole run quiet finished =
      let accepted = (read_is_accepted w kind t raw).0 whole in
      let es = events_read v w (events kind raw) (from, t) last run quiet in
      record {
        raw = raw;
        accepted = accepted;
        only = λ other k. one_field_lem w kind t other raw k accepted;
        holds = (es.0, es.1, es.2, last.0, es.3, finished);
      }

  -- an item, up to the bytes after it
  module _ (before after : Cursor) (s : List ℕ) (to : S) (same : kept before ≡ (p, alloc))
      (skipped : span is_space t ≡ Ok (s, rest before)) where
    item_read : (r : Result (Unit {0}) (ParseError E)) → VisitsAsRead v item_events before after from to r item_at
        → (q : List ℕ) × OnOk r (Passes q (rest after)) × VisitsAnswer (TakesNext v w)
        (FailsNext v w) item_events (p, alloc) after (from, t) (to, q) r (item_at w (rest before))
    item_read r h =
        let k = h t (passes_spaces t s (rest before) skipped) in (
          k.0,
          k.1,
          kept_next v item_events item_at before after (from, t) (to, k.0) (p, alloc) r same k.2,
        )

    pub item_field_fails : (error : ParseError E) → VisitsAsRead v item_events before after from to (Err error) item_at
        → FieldIs item_field (Err error)
    item_field_fails error h =
        let k = item_read (Err error) h in
        item_fails (TakesNext v w) (FailsNext v w) Finishes FinishFails w (p, alloc) s (rest before) (from, t) (to, k.0)
        after error skipped k.2

    module _ (h : VisitsAsRead v item_events before after from to (Ok tt) item_at) where
      pub item_field_unfinished : (error : ParseError E) → IsOfVisitor (v.finish_fails to) error
          → FieldIs item_field (Err error)
      item_field_unfinished error failed =
          let k = item_read (Ok tt) h in
          finish_failed _ _ _ _ _ _ _ _ _ _ _ _ _ skipped k.2.1 k.2.2 failed

      pub item_field_trailing : (end : Cursor) (s' : List ℕ) (out : O) → kept end ≡ kept after
          → span is_space (rest after) ≡ Ok (s', rest end) → is_some (first (rest end)) ≡ true → v.finishes to out
          → FieldIs item_field (Err (Syntax (error_of TrailingCharactersAfterParsedValue (Some end.index))))
      item_field_trailing end s' out keeps spaces some finished =
          let k = item_read (Ok tt) h in
          let error = error_of TrailingCharactersAfterParsedValue (Some end.index) in (
            field_trailing_error _ _ _ _ _ _ end _ _ (keeps ∙ k.2.3) skipped k.2.1 spaces some,
            finished_at (TakesNext v w) Finishes w t s (rest before) (rest after) k.2.0 (from, t) (to, k.0) out error
                skipped k.2.1 k.2.2 finished,
            took_whole _ _ _ _ _ _ _ _ _ error skipped k.2.1 k.2.2,
          )

      module _ (s' q : List ℕ) (out : O) (spaces : span is_space (rest after) ≡ Ok (s', q))
          (none : is_some (first q) ≡ false) (finished : v.finishes to out) where
        pub item_field_done : FieldIs item_field (Ok out)
        item_field_done =
            let k = item_read (Ok tt) h in (
              k.2.0,
              field_done w t s (rest before) (rest after) s' q k.2.0 skipped k.2.1 spaces none,
              ((to, k.0), k.2.2, finished),
            )

        pub item_field_read : ReceivesAsReadBy v p item_field from out
        item_field_read =
            let k = item_read (Ok tt) h in
            in_words _ k.2.0 (to, k.0) _ (field_done _ _ _ _ _ _ _ _ skipped k.2.1 spaces none) k.2.2
            (ended _ _ (passes_then _ _ _ k.1 (passes_spaces _ _ _ spaces)) (at_end _ none)) finished

  -- members, up to the end of the input
  module _ (keyed : Bool) (start after : Cursor) (to : S) (same : kept start ≡ (p, alloc))
      (whole : rest start ≡ t) where
    abbrev All : List (MemberValue keyed) → List TreeEvent
    All members = flat_map (member_parts keyed) members

    abbrev Members : Version → Reader (List (MemberValue keyed))
    Members version = members_at (member_parts keyed) (one_member_at keyed version)

    members_read : (r : Result (Unit {0}) (ParseError E)) → VisitsAsRead v All start after from to r Members
        → (q : List ℕ) × OnOk r (Passes q (rest after))
        × VisitsAnswer (TakesNext v w) (FailsNext v w) All (p, alloc) after (from, t) (to, q) r (Members w t)
    members_read r h =
        let k = h t (passes_same t (rest start) whole) in (
          k.0,
          k.1,
          start_visits (TakesNext v w) (FailsNext v w) All Members start after (from, t) (to, k.0) (p, alloc) r same whole
              (under v All Members start after (from, t) (to, k.0) r w (ap kept_version same) k.2),
        )

    pub members_field_fails : (error : ParseError E) → VisitsAsRead v All start after from to (Err error) Members
        → FieldIs (field_of keyed) (Err error)
    members_field_fails error h =
        let k = members_read (Err error) h in
        members_fail _ _ _ _ _ _ (p, alloc) _ (to, k.0) after _ k.2

    module _ (end : rest after ≡ []) (h : VisitsAsRead v All start after from to (Ok tt) Members) where
      pub members_field_ends : (r : Result O (ParseError E)) → IfOk r (v.finishes to)
          → IfErr r (IsOfVisitor (v.finish_fails to)) → FieldIs (field_of keyed) r
      members_field_ends r finished failed =
          let k = members_read (Ok tt) h in
          members_finish _ _ _ _ _ _ _ _ _ _ _ _ k.2.1 end k.2.2 finished failed

      pub members_field_read : (out : O) → v.finishes to out → ReceivesAsReadBy v p (field_of keyed) from out
      members_field_read out finished =
          let k = members_read (Ok tt) h in
          let f = members_finish (TakesNext v w) (FailsNext v w)
          (λ s out. v.finishes s.0 out × HasNoQuote s.1) FinishFails keyed w t (rest after) (from, t) (to, k.0) (Ok out)
          k.2.0 k.2.1 end k.2.2 (finished, ended k.0 (rest after) k.1 end) tt in
          in_words (field_of keyed) f.0 f.2.0 out f.1 f.2.1 f.2.2.1 f.2.2.0
