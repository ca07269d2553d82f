-- Members are written call by call.
use Rattle.std.proofs.Common.{◌≡◌, ◌≤◌, ℕ, ◌+◌, ◌<◌, Bool, true, false, List, [], ◌∷◌, ◌++◌, length, get_or, map, take}
use Rattle.std.proofs.Common.{refl, sym, ap, subst, ◌∙◌, codes, append_assoc, arith, string_capacity, Option}
use Rattle.std.proofs.Common.{filter_map, Result, Ok, Err, OnOk, OnErr, string_bytes, string_len, MutBor, append-nil}
use Rattle.std.specs.List.{AllByRecursion}
use Rattle.std.proofs.lemmas.{List.map-append, List.Elements.filter_map-append, Str.IsUtf8-string_bytes}
use Rattle.sfv_spec.specs.{Canonical.{item_text, parameters_text, dictionary_member_text}, Texts.joined}
use Rattle.sfv_spec.specs.{Values.{RawItem, RawParameters, IsItem, inner_list}, declared.version.Version.Version}
use Rattle.sfv_spec.proofs.Each.{each_append}
use Rattle.sfv_values.specs.BareItems.{ref_value}
use Rattle.sfv_writer.specs.Written.{Extends, separator_before, with_separators, is_first_after}
use Rattle.sfv_writer.proofs.Separated.{IsLed, mapped_more, is_first_after-false, in_a_row_first}
use Rattle.sfv_serializer.specs.ScriptSteps.{inner_list_calls, member_calls, ended_text, WritesInner, WritesList}
use Rattle.sfv_serializer.specs.{ScriptSteps.WritesDictionary, Scripts.{param_of_call, item_of_calls}}
use Rattle.sfv_serializer.specs.Serializers.{HasAppended, KeepsSequence, GrowsSequence, Removes, lent_sequence}
use Rattle.sfv_serializer.specs.Serializers.{sequence_sink, is_empty_so_far}
use Rattle.sfv_serializer.specs.declared.script.{ItemCalls.ItemCalls, MemberCalls.MemberCalls, ParamCall.ParamCall}
use Rattle.sfv_serializer.specs.declared.sequence.SequenceSerializer.{SequenceSerializer}
use Rattle.sfv_serializer.specs.declared.{sequence_kind.InnerListItems.InnerListItems, sink.Sink.Ghosts as Sink}

is_first_after-append : {A : Type 0} (b : Bool) (xs ys : List A)
    → is_first_after b (xs ++ ys) ≡ is_first_after (is_first_after b xs) ys
is_first_after-append b [] ys = refl
is_first_after-append b (x ∷ xs) ys = sym (is_first_after-false ys)

pub is_first_after-map : {A B : Type 0} (f : A → B) (b : Bool) (xs : List A) → is_first_after b (map f xs) ≡ is_first_after b xs
is_first_after-map f b [] = refl
is_first_after-map f b (x ∷ xs) = refl

-- parts in a row after others
pub in_a_row_append : (s : List ℕ) (b : Bool) (xs ys : List (List ℕ))
    → with_separators b s (xs ++ ys) ≡ with_separators b s xs ++ with_separators (is_first_after b xs) s ys
in_a_row_append s b [] ys = refl
in_a_row_append s b (x ∷ xs) ys =
    let front : List ℕ = separator_before b s ++ x in
    let rest : List ℕ = with_separators false s xs in
    let after : List ℕ = with_separators false s ys in
    let next : with_separators false s (xs ++ ys) ≡ rest ++ after = in_a_row_append s false xs ys
    ∙ ap (λ (c : Bool). rest ++ with_separators c s ys) (is_first_after-false xs) in
    ap (λ (t : List ℕ). front ++ t) next ∙ sym (append_assoc front rest after)

-- more parts are written
pub in_a_row_parts : {A : Type 0} (text_of : A → List ℕ) (IsGood : A → Type 0) (s : List ℕ) (xs ys : List A)
    (was_first is_first is_next : Bool) (before output new : List ℕ)
    → IsLed text_of IsGood s xs was_first is_first before output → is_next ≡ is_first_after is_first ys
    → new ≡ output ++ with_separators is_first s (map text_of ys) → AllByRecursion IsGood ys
    → IsLed text_of IsGood s (xs ++ ys) was_first is_next before new
in_a_row_parts text_of IsGood s xs ys was_first is_first is_next before output new row f n g =
    let so_far : List ℕ = with_separators was_first s (map text_of xs) in
    let after : Bool → List ℕ = λ b. with_separators b s (map text_of ys) in
    let flag : is_first ≡ is_first_after was_first (map text_of xs) =
    row.first ∙ sym (is_first_after-map text_of was_first xs) in
    record {
      first = f ∙ ap (λ (b : Bool). is_first_after b ys) row.first ∙ sym (is_first_after-append was_first xs ys);
      text = n ∙ ap (λ (t : List ℕ). t ++ after is_first) row.text ∙ append_assoc before so_far (after is_first) ∙ ap
          (λ (t : List ℕ). before ++ t) (ap (λ (b : Bool). so_far ++ after b) flag ∙ sym (in_a_row_append s was_first
          (map text_of xs) (map text_of ys)) ∙ ap (with_separators was_first s) (sym (map-append text_of xs ys)));
      good = each_append IsGood xs ys row.good g;
    }

-- one more item of an inner list
pub item_more : (items : List ItemCalls) (n : ℕ) (x : ItemCalls) (was_first is_first is_next : Bool)
    (before output new : List ℕ) → n < length items → x ≡ get_or items n x → IsLed item_text IsItem (codes " ")
    (map item_of_calls (take n items)) was_first is_first before output → is_next ≡ false
    → new ≡ output ++ (separator_before is_first (codes " ") ++ item_text (item_of_calls x)) → IsItem (item_of_calls x)
    → IsLed item_text IsItem (codes " ") (map item_of_calls (take (n + 1) items)) was_first is_next before new
item_more items n x was_first is_first is_next before output new lt is row f e good =
    let space : List ℕ = separator_before is_first (codes " ") in
    let text : List ℕ = item_text (item_of_calls x) in
    subst (λ (is : List RawItem). IsLed item_text IsItem (codes " ") is was_first is_next before new)
    (sym (mapped_more _ _ _ _ lt is)) (in_a_row_parts _ _ _ _ _ _ _ _ _ _ _ row f
    (e ∙ ap (λ (t : List ℕ). output ++ t) (sym (append-nil (space ++ text)))) (good, tt))

-- the calls so far, and one more
pub calls_more : {C D M : Type 0} (given : D → Option M) (f : C → D) (text_of : M → List ℕ) (IsGood : M → Type 0)
    (s : List ℕ) (calls : List C) (n : ℕ) (x : C) (was_first is_first is_next : Bool) (before output new : List ℕ)
    → n < length calls → x ≡ get_or calls n x
    → IsLed text_of IsGood s (filter_map given (map f (take n calls))) was_first is_first before output
    → is_next ≡ is_first_after is_first (filter_map given (f x ∷ []))
    → new ≡ output ++ with_separators is_first s (map text_of (filter_map given (f x ∷ [])))
    → AllByRecursion IsGood (filter_map given (f x ∷ []))
    → IsLed text_of IsGood s (filter_map given (map f (take (n + 1) calls))) was_first is_next before new
calls_more {D = D} {M} given f text_of IsGood s calls n x was_first is_first is_next before output new lt is row e
    t good =
    let more : filter_map given (map f (take (n + 1) calls))
    ≡ filter_map given (map f (take n calls)) ++ filter_map given (f x ∷ []) = ap (λ (ds : List D). filter_map given ds)
    (mapped_more f calls n x lt is) ∙ filter_map-append given (map f (take n calls)) (f x ∷ []) in
    subst (λ (ms : List M). IsLed text_of IsGood s ms was_first is_next before new) (sym more)
    (in_a_row_parts text_of IsGood s _ _ was_first is_first is_next before output new row e t good)

-- what is written after other text
pub extends_again : (a b c : List ℕ) → Extends a b → Extends b c → Extends a c
extends_again a b c e f = (e.0 ++ f.0, f.1 ∙ ap (λ (l : List ℕ). l ++ f.0) e.1 ∙ append_assoc a e.0 f.0)

-- room that does not shrink in two steps does not shrink
pub no_less : {a b c : ℕ} → a ≤ b → b ≤ c → a ≤ c
no_less h k = omega (arith, h, k)

-- what holds of an error that was answered
pub of_error : {A E : Type 0} (r : Result A E) (e : E) (P : Type 0) → r ≡ Err e → OnErr r P → P
of_error r e P is h = subst (λ (r : Result _ _). OnErr r P) is h

module _ {W K : Type 0} (w : Sink W) where
  -- what is known of a serializer holds of the value that its loan ends at
  pub kept_as : (s v : SequenceSerializer W K) (b : W) (f : Bool) (r : Version) (k : K) → KeepsSequence w s v → b ≡ v.sink
      → f ≡ v.is_first → r ≡ v.version → k ≡ v.kind
      → w.same s.sink b × (string_bytes (w.text b) ≡ string_bytes (w.text s.sink)) × (f ≡ s.is_first) × (r ≡ s.version)
      × (k ≡ s.kind) × (string_capacity (w.text s.sink) ≤ string_capacity (w.text b))
  kept_as s v b f r k h e i l q = (rw e h.0, rw e h.1, i ∙ h.2, l ∙ h.3, q ∙ h.4, rw e h.5)

  pub more_as : (s v : SequenceSerializer W K) (b : W) (f : Bool) (r : Version) (k : K) (more : List ℕ) (is_first : Bool)
      → HasAppended w s v more is_first → b ≡ v.sink → f ≡ v.is_first → r ≡ v.version → k ≡ v.kind
      → w.same s.sink b × (string_bytes (w.text b) ≡ string_bytes (w.text s.sink) ++ more) × (f ≡ is_first)
      × (r ≡ s.version) × (k ≡ s.kind) × (string_capacity (w.text s.sink) ≤ string_capacity (w.text b))
  more_as s v b f r k more is_first h e i l q = (rw e h.0, rw e h.1, i ∙ h.2, l ∙ h.3, q ∙ h.4, rw e h.5)

module _ {W K : Type 0} (w : Sink W) (again : (r s t : W) → w.same r s → w.same s t → w.same r t) where
  -- more is written after it
  pub more_grown : (s t u : SequenceSerializer W K) (more : List ℕ) (is_first : Bool) → GrowsSequence w s t
      → HasAppended w t u more is_first → GrowsSequence w s u
  more_grown s t u more is_first g h =
      (again _ _ _ g.0 h.0, extends_again _ _ _ g.1 (more, h.1), h.4 ∙ g.2, no_less g.3 h.5)

  -- an inner list was begun, and its items were written
  pub begun_grown : (s : SequenceSerializer W K) (t u : SequenceSerializer (MutBor (SequenceSerializer W K)) InnerListItems)
      (more : List ℕ) (is_first : Bool) → HasAppended w s (sequence_sink t).now more is_first
      → GrowsSequence (lent_sequence w) t u → GrowsSequence w s (sequence_sink u).now
  begun_grown s t u more is_first h g =
      (again _ _ _ h.0 g.0.1, extends_again _ _ _ (more, h.1) g.1, g.0.4 ∙ h.4, no_less h.5 g.3)

  -- the next call was out of memory
  pub kept_grown : (s t u : SequenceSerializer W K) (b : W) (k : K) → GrowsSequence w s t → KeepsSequence w t u → b ≡ u.sink → k ≡ u.kind
      → w.same s.sink b × Extends (string_bytes (w.text s.sink)) (string_bytes (w.text b)) × (k ≡ s.kind)
      × (string_capacity (w.text s.sink) ≤ string_capacity (w.text b))
  kept_grown s t u b k g h e q =
      rw e (again _ _ _ g.0 h.0, extends_again _ _ _ g.1 ([], h.1 ∙ sym (append-nil _)), q ∙ h.4 ∙ g.2, no_less g.3 h.5)

  -- an inner list was begun, and was taken away again
  pub taken_away : (s v : SequenceSerializer W K) (t u : SequenceSerializer (MutBor (SequenceSerializer W K)) InnerListItems) (more : List ℕ)
      → HasAppended w s (sequence_sink t).now more (is_empty_so_far s)
      → t.kind.len_before ≡ string_len (w.text (sequence_sink s)) → GrowsSequence (lent_sequence w) t u
      → Removes w u (sequence_sink u).now v → KeepsSequence w s v
  taken_away s v t u more begun long grown cut =
      let whole : List ℕ = string_bytes (w.text (sequence_sink s)) in (
        again _ _ _ begun.0 (again _ _ _ grown.0.1 cut.0),
        cut.1.back whole (IsUtf8-string_bytes (w.text (sequence_sink s))) (ap (λ k. k.len_before) grown.2
            ∙ long ∙ (w.text (sequence_sink s)).bytes.ok.0) (extends_again whole _ _ (more, begun.1) grown.1),
        cut.2 ∙ grown.0.2 ∙ begun.2,
        cut.3 ∙ grown.0.3 ∙ begun.3,
        cut.4 ∙ grown.0.4 ∙ begun.4,
        no_less begun.5 (no_less grown.3 cut.5),
      )

  -- and nothing is left of it
  pub away_grown : (s v : SequenceSerializer W K) (t u : SequenceSerializer (MutBor (SequenceSerializer W K)) InnerListItems) (more : List ℕ) (b : W) (k : K)
      → ((s : W) → w.same s s) → HasAppended w s (sequence_sink t).now more (is_empty_so_far s)
      → t.kind.len_before ≡ string_len (w.text (sequence_sink s)) → GrowsSequence (lent_sequence w) t u
      → Removes w u (sequence_sink u).now v → b ≡ v.sink → k ≡ v.kind
      → w.same s.sink b × Extends (string_bytes (w.text s.sink)) (string_bytes (w.text b)) × (k ≡ s.kind)
      × (string_capacity (w.text s.sink) ≤ string_capacity (w.text b))
  away_grown s v t u more b k itself begun long grown cut e q =
      kept_grown s s v b k (itself s.sink, ([], sym (append-nil _)), refl, omega arith) (taken_away s v t u more begun long grown cut) e q

-- a piece is written after another
pub written_after : (before now new front piece more : List ℕ) → now ≡ before ++ (front ++ piece) → new ≡ now ++ more
    → new ≡ before ++ (front ++ (piece ++ more))
written_after before now new front piece more e n = n ∙ ap (λ (t : List ℕ). t ++ more) e
    ∙ append_assoc before (front ++ piece) more ∙ ap (λ (t : List ℕ). before ++ t) (append_assoc front piece more)

-- an inner list that was begun, written and ended
pub inner_list_ended : (before t1 t2 t3 t4 front opening : List ℕ) (none : Bool)
    (items : List RawItem) (params : RawParameters) → t1 ≡ before ++ (front ++ opening)
    → t2 ≡ t1 ++ with_separators none (codes " ") (map item_text items) → none ≡ true → t3 ≡ t2 ++ codes ")"
    → t4 ≡ t3 ++ parameters_text params → t4 ≡ before ++ (front ++ ended_text opening items params)
inner_list_ended before t1 t2 t3 t4 front opening none items params e1 e2 n e3 e4 =
    let inside : List ℕ = joined (codes " ") (map item_text items) in
    let row : with_separators none (codes " ") (map item_text items) ≡ inside =
    ap (λ (b : Bool). with_separators b (codes " ") (map item_text items)) n ∙ in_a_row_first (codes " ") (map item_text items) in
    let begun = written_after before t1 t2 front opening inside e1 (e2 ∙ ap (λ (t : List ℕ). t1 ++ t) row) in
    let closed = written_after before t2 t3 front (opening ++ inside) (codes ")") begun e3 in
    written_after before t3 t4 front ((opening ++ inside) ++ codes ")") (parameters_text params) closed e4

module _ {W K : Type 0} (w : Sink W) (again : (r s t : W) → w.same r s → w.same s t → w.same r t) where
  -- the same, of serializers
  pub inner_ended : (s e v : SequenceSerializer W K) (t u : SequenceSerializer (MutBor (SequenceSerializer W K)) InnerListItems) (front opening : List ℕ)
      (items : List RawItem) (params : RawParameters) (was_first none : Bool)
      → HasAppended w s (sequence_sink t).now (front ++ opening) was_first → is_empty_so_far t ≡ true
      → HasAppended (lent_sequence w) t u (with_separators (is_empty_so_far t) (codes " ") (map item_text items)) none
      → HasAppended w (sequence_sink u).now e (codes ")") false → HasAppended w e v (parameters_text params) false
      → HasAppended w s v (front ++ ended_text opening items params) false
  inner_ended s e v t u front opening items params was_first none begun n row ended after = (
    again _ _ _ begun.0 (again _ _ _ row.0.1 (again _ _ _ ended.0 after.0)),
    inner_list_ended _ _ _ _ _ front opening _ items params begun.1 row.1 n ended.1 after.1,
    after.2,
    after.3 ∙ ended.3 ∙ row.0.3 ∙ begun.3,
    after.4 ∙ ended.4 ∙ row.0.4 ∙ begun.4,
    no_less begun.5 (no_less row.5 (no_less ended.5 after.5)),
  )

-- an inner list that begins with a key and an equals sign
pub named_inner : (key : List ℕ) (items : List RawItem) (params : RawParameters)
    → ended_text (key ++ codes "=(") items params
    ≡ dictionary_member_text (key, inner_list (record { items = items; parameters = params }))
named_inner key items params = simp append_assoc (ap (λ (t : List ℕ). key ++ (codes "=(" ++ t))
    (sym (append_assoc (joined (codes " ") (map item_text items)) (codes ")") (parameters_text params))))

-- an inner list that was begun after a key, written and ended
pub named_list_ended : (before t1 t2 t3 t4 front key : List ℕ) (none : Bool) (items : List RawItem)
    (params : RawParameters)
    → t1 ≡ before ++ (front ++ (key ++ codes "=(")) → t2 ≡ t1 ++ with_separators none (codes " ") (map item_text items) → none ≡ true
    → t3 ≡ t2 ++ codes ")" → t4 ≡ t3 ++ parameters_text params
    → t4 ≡ before ++ (front ++ dictionary_member_text (key, inner_list (record { items = items; parameters = params })))
named_list_ended before t1 t2 t3 t4 front key none items params e1 e2 n e3 e4 = inner_list_ended before _ _ _ _ front
    (key ++ codes "=(") _ _ _ e1 e2 n e3 e4 ∙ ap (λ (t : List ℕ). before ++ (front ++ t)) (named_inner _ items params)

-- what follows from what holds if all went well
on_ok : {T E P Q : Type 0} (r : Result T E) → (P → Q) → OnOk r P → OnOk r Q
on_ok (Ok x) f h = f h
on_ok (Err e) f h = h

module _ {W K : Type 0} (w : Sink W) (s t : SequenceSerializer W K) where
  list_inner : (items : List ItemCalls) (params : List ParamCall) (abandon : Bool)
      → WritesInner w s t (codes ", ") (codes "(") (map item_of_calls items) (map param_of_call params) abandon
      → WritesList w s t (inner_list_calls items params abandon ∷ [])
  list_inner items params true h = (h.0, h.1 ∙ sym (append-nil _), h.2, h.3, h.4, h.5)
  list_inner items params false h =
      (h.0, h.1 ∙ ap (λ (l : List ℕ). string_bytes (w.text s.sink) ++ l) (sym (append-nil _)), h.2, h.3, h.4, h.5)

  dictionary_inner : (key : List ℕ) (items : List ItemCalls) (params : List ParamCall) (abandon : Bool)
      → WritesInner w s t (codes ", ") (key ++ codes "=(") (map item_of_calls items) (map param_of_call params) abandon
      → WritesDictionary w s t ((key, inner_list_calls items params abandon) ∷ [])
  dictionary_inner key items params true h = (h.0, h.1 ∙ sym (append-nil _), h.2, h.3, h.4, h.5)
  dictionary_inner key items params false h =
      let front : List ℕ = separator_before (is_empty_so_far s) (codes ", ") in
      let named = named_inner key (map item_of_calls items) (map param_of_call params) in (
        h.0,
        h.1 ∙ ap (λ (l : List ℕ). string_bytes (w.text s.sink) ++ l)
            (ap (λ (l : List ℕ). front ++ l) named ∙ sym (append-nil _)),
        h.2,
        h.3,
        h.4,
        h.5,
      )

  -- the calls of a member that is an inner list were performed
  pub list_inner_written : {T E : Type 0} (r : Result T E) (m : MemberCalls) (items : List ItemCalls)
      (params : List ParamCall) (abandon : Bool) → member_calls m ≡ inner_list_calls items params abandon
      → OnOk r (WritesInner w s t (codes ", ") (codes "(") (map item_of_calls items) (map param_of_call params) abandon)
      → OnOk r (WritesList w s t (member_calls m ∷ []))
  list_inner_written r m items params abandon is h = rw is (on_ok r (list_inner items params abandon) h)

  pub dictionary_inner_written : {T E : Type 0} (r : Result T E) (key : List ℕ) (m : MemberCalls)
      (items : List ItemCalls) (params : List ParamCall) (abandon : Bool)
      → member_calls m ≡ inner_list_calls items params abandon
      → OnOk r (WritesInner w s t (codes ", ") (key ++ codes "=(") (map item_of_calls items) (map param_of_call params)
      abandon)
      → OnOk r (WritesDictionary w s t ((key, member_calls m) ∷ []))
  dictionary_inner_written r key m items params abandon is h = rw is (on_ok _ (dictionary_inner _ _ _ _) h)

-- the item when this many of its parameters are written
abbrev pub item_so_far : ItemCalls → ℕ → RawItem
item_so_far c n = record { bare = ref_value c.value; parameters = map param_of_call (take n c.params.items) }
