-- What the uses rest on.
use Rattle.std.proofs.Common.{◌≡◌, ℕ, ℤ, ◌+◌, ◌<◌, ◌≤◌, List, [], ◌∷◌, length, refl, sym, ap, ◌∙◌, arith, inl, inr}
use Rattle.std.proofs.Common.{subst, Option, Some, None, Result, Ok, Err, IsSome, IfOk, IfErr, MatchResult, fold}
use Rattle.std.{proofs.Common.{filter_map, option_map, length-append}, specs.List.{FoldsTo, cons_option}}
use Rattle.std.{specs.Prelude.⊤, proofs.lemmas.List.length-map, proofs.lemmas.List.Elements.filter_map-append}
use Rattle.sfv.specs.Field.{RawItem, BareValue, integer, decimal, string, token, byte_sequence, boolean, date}
use Rattle.sfv.specs.Field.{display_string, RawMember, item, inner_list, TreeEvent, entry, keyed_entry, begins_item}
use Rattle.sfv.specs.Field.{begins_inner_list, bare_item, parameter, parameters_end, inner_list_end, events}
use Rattle.sfv.specs.Field.{IsFieldText, IsAccepted, last_of, ordered_member, IsParsedAs, IsParseError, input_value}
use Rattle.sfv.specs.{Grammar.BeginsWithLongest, Parsers.IsBorrowedIfPlain}
use Rattle.sfv.specs.{ProvidedVisitors.{ReadBareItem, OnRead, KeepTakes, KeepFails, IsWrongType}, TokenText.TokenRef}
use Rattle.sfv.specs.Types.{FieldKind, item_field, dictionary_field, Rfc9651, Error, ParseError, OutOfMemory, ItemFault}
use Rattle.sfv.specs.Types.{ExpectItem, StringFromInput, parse_errors.{Syntax, Visitor}}
use Rattle.sfv.proofs.Callers.{WithSomeVisitor, Answers, FailsIn, HasSyntax, HasVisitorError, HasFirst, runs_fold}
use Rattle.sfv.proofs.Callers.{key_in, keys_in_events, member_read, last_of-collapse, expect_answers, expect_fails}
use Rattle.sfv.proofs.Callers.{expect_first, begins_with_its, accepted_error}
use Rattle.sfv_examples.specs.Uses.{BeginsWithComplete, integer_or, param_in, counts, HasMembers, IsCountError}
use Rattle.sfv_examples.specs.Uses.{IsExpectError, IsTokenError, IsReadError, IsErrorOfLines, IsLentString}
use Rattle.sfv_examples.specs.declared.visiting.{MemberCounter.MemberCounter, TooMany.TooMany}
use Rattle.sfv.specs.Types.bare_items as bare_items
use Rattle.sfv.specs.Types.bare_item_types as kinds
use Rattle.sfv.specs.Types.item_faults as item_faults

-- of another kind it is the default
pub integer_or-other : (default : ℤ) (b : BareValue) → ((z : ℤ) → ¬ (b ≡ integer z)) → integer_or default b ≡ default
integer_or-other default (integer z) h = absurd (h z refl)
integer_or-other default (decimal z) h = refl
integer_or-other default (string s) h = refl
integer_or-other default (token t) h = refl
integer_or-other default (byte_sequence bytes) h = refl
integer_or-other default (boolean b) h = refl
integer_or-other default (date z) h = refl
integer_or-other default (display_string s) h = refl

-- a parameter in a dictionary that was read is the last of the text
pub param_read : (t : List ℕ) (value : List (List ℕ × RawMember)) (key param : List ℕ)
    → (h : IsParsedAs Rfc9651 dictionary_field t value)
    → param_in param (last_of key value) ≡ param_in param (last_of key h.raw)
param_read t value key param h = ap (param_in param) (member_read Rfc9651 t value key h) ∙ go (last_of key h.raw)
  where
    go : (m : Option RawMember) → param_in param (option_map ordered_member m) ≡ param_in param m
    go None = refl
    go (Some (item i)) = last_of-collapse param i.parameters
    go (Some (inner_list l)) = last_of-collapse param l.parameters

-- the second of two lines fails as `parse` does, or for memory
pub second_fails : {S O T : Type 0} (kind : FieldKind) (takes : S → TreeEvent → S → Type 0) (finishes : S → O → Type 0)
    (first second : List ℕ) (from : S) (r : Result T (ParseError OutOfMemory)) → IsAccepted Rfc9651 kind first
    → IfErr r (HasSyntax takes finishes Rfc9651 kind second from) → IfErr r (IsErrorOfLines kind first second)
second_fails kind takes finishes first second from (Ok x) a h = tt
second_fails kind takes finishes first second from (Err (Syntax e)) a h = inr (a, h.0)
second_fails kind takes finishes first second from (Err (Visitor fault)) a h = a

-- the keys among some events
abbrev keys_among : List TreeEvent → ℕ
keys_among es = length (filter_map key_in es)

-- the events are counted by their keys
counted : (es : List TreeEvent) (n limit : ℕ) → fold counts (n, limit) es ≡ (n + keys_among es, limit)
counted [] n limit = ap (λ (m : ℕ). (m, limit)) (omega arith)
counted (keyed_entry key ∷ es) n limit = counted es (n + 1) limit ∙ ap (λ (m : ℕ). (m, limit)) (omega arith)
counted (entry ∷ es) n limit = counted es n limit
counted (begins_item ∷ es) n limit = counted es n limit
counted (begins_inner_list ∷ es) n limit = counted es n limit
counted (bare_item value ∷ es) n limit = counted es n limit
counted (parameter key value ∷ es) n limit = counted es n limit
counted (parameters_end ∷ es) n limit = counted es n limit
counted (inner_list_end ∷ es) n limit = counted es n limit

-- a dictionary has as many keys among its events as members
all_counted : (raw : List (List ℕ × RawMember)) → keys_among (events dictionary_field raw) ≡ length raw
all_counted raw = ap (length {A = List ℕ}) (keys_in_events raw) ∙ length-map raw (λ (m : List ℕ × RawMember). m.0)

-- what the counter does with an event
abbrev Takes : MemberCounter → TreeEvent → MemberCounter → Type 0
Takes s e after = (after.members, after.limit) ≡ counts (s.members, s.limit) e

-- what it has counted after some events
run_counted : (es : List TreeEvent) (from s : MemberCounter) → from.members ≡ 0 → FoldsTo Takes from es s
    → (s.members ≡ keys_among es) × (s.limit ≡ from.limit)
run_counted es from s start run =
    let whole = runs_fold (λ (c : MemberCounter). (c.members, c.limit)) counts es from s run
    ∙ counted es from.members from.limit in
    let members : s.members ≡ from.members + keys_among es = ap (λ (p : ℕ × ℕ). p.0) whole in
    (omega (arith, members, start), ap (λ (p : ℕ × ℕ). p.1) whole)

abbrev Fails : MemberCounter → TreeEvent → TooMany → Type 0
Fails s e fault = (s.limit ≤ s.members) × IsSome (key_in e)

abbrev Finishes : MemberCounter → ℕ → Type 0
Finishes s out = (out ≡ s.members) × (out ≤ s.limit)

abbrev FinishFails : MemberCounter → TooMany → Type 0
FinishFails s fault = ⊥

module _ (t : List ℕ) (from : MemberCounter) (start : from.members ≡ 0) where
  pub count_answered : (r : Result ℕ (ParseError TooMany))
      → IfOk r (Answers Takes Finishes Rfc9651 dictionary_field t from) → IfOk r (HasMembers t from.limit)
  count_answered (Ok n) h =
      let run = run_counted (events dictionary_field h.raw) from h.holds.0 start h.holds.1 in
      let last = h.holds.2 in
      record {
        raw = h.raw;
        accepted = h.accepted;
        count = last.0 ∙ run.0 ∙ all_counted h.raw;
        within = omega (arith, last.1, run.1);
      }
  count_answered (Err e) h = tt

  -- where it fails one member more comes than are wanted
  failed_late : (raw : List (List ℕ × RawMember)) (fault : TooMany)
      → FailsIn Takes Fails FinishFails from (events dictionary_field raw) ⊤ fault → from.limit < length raw
  failed_late raw fault (inl h) =
      let run = run_counted h.0 from h.3 start h.5 in
      let full = h.6.0 in
      let here : 0 < keys_among (h.1 ∷ h.2) = one_more (key_in h.1) h.6.1 in
      let all : keys_among h.0 + keys_among (h.1 ∷ h.2) ≡ length raw =
      sym (length-append (filter_map key_in h.0) (filter_map key_in (h.1 ∷ h.2)))
      ∙ ap (length {A = List ℕ}) (sym (filter_map-append key_in h.0 (h.1 ∷ h.2)))
      ∙ ap keys_among (sym h.4) ∙ all_counted raw in
      omega (arith, run.0, run.1, full, here, all)
    where
      one_more : (o : Option (List ℕ)) → IsSome o → 0 < length (cons_option o (filter_map key_in h.2))
      one_more (Some key) k = omega arith
      one_more None k = absurd cc
  failed_late raw fault (inr h) = absurd h.3

  pub count_failed : (r : Result ℕ (ParseError TooMany))
      → IfErr r (HasSyntax Takes Finishes Rfc9651 dictionary_field t from)
      → IfErr r (HasVisitorError Takes Fails FinishFails Rfc9651 dictionary_field t from)
      → IfErr r (IsCountError t from.limit)
  count_failed (Ok n) h k = tt
  count_failed (Err (Syntax e)) h k = h.0
  count_failed (Err (Visitor fault)) h k = λ raw accepted. failed_late raw fault (k.0 raw accepted)

-- what a type that holds bare items is read as of an item
module _ {T : Type 0} (holds : T → BareValue) (is_of : T → ReadBareItem → Type 0)
    (fails : ReadBareItem → ItemFault → Type 0) where
  abbrev Waits : ExpectItem T → Type 0
  Waits s = s.kept ≡ None

  abbrev Keeps : ExpectItem T → T → Type 0
  Keeps s held = s.kept ≡ Some held

  abbrev KeepsNone : ExpectItem T → ItemFault → Type 0
  KeepsNone s fault = (s.kept ≡ None) × (fault ≡ item_faults.NoItem)

  pub expected : (t : List ℕ) (r : Result T (ParseError ItemFault))
      → IfOk r (WithSomeVisitor Waits (Answers (OnRead (KeepTakes holds is_of)) Keeps Rfc9651 item_field t))
      → IfErr r (WithSomeVisitor Waits (HasSyntax (OnRead (KeepTakes holds is_of)) Keeps Rfc9651 item_field t))
      → IfErr r (WithSomeVisitor Waits (HasVisitorError (OnRead (KeepTakes holds is_of)) (OnRead (KeepFails fails)) KeepsNone Rfc9651 item_field t))
      → (raw : RawItem) → IsFieldText Rfc9651 item_field raw t
      → MatchResult r (λ held. holds held ≡ raw.bare) (IsExpectError fails raw.bare)
  expected t (Ok held) h k l raw accepted =
      let read = expect_answers holds is_of fails Rfc9651 t (Ok held) h in
      read.2 ∙ ap (λ (i : RawItem). i.bare) (h.2.only read.0 read.1 ∙ sym (h.2.only raw accepted))
  expected t (Err (Syntax e)) h k l raw accepted = accepted_error Rfc9651 item_field t raw e accepted k.2.0
  expected t (Err (Visitor fault)) h k l raw accepted = expect_fails holds is_of fails Rfc9651 t raw fault accepted l

  pub expected_first : (t : List ℕ) (r : Result T (ParseError ItemFault))
      → IfOk r (WithSomeVisitor Waits (Answers (OnRead (KeepTakes holds is_of)) Keeps Rfc9651 item_field t))
      → IfErr r (WithSomeVisitor Waits (HasFirst (OnRead (KeepTakes holds is_of)) (OnRead (KeepFails fails)) KeepsNone Rfc9651 t))
      → (value : BareValue) → BeginsWithComplete value t → ((held : T) → ¬ (holds held ≡ value))
      → MatchResult r (λ _. ⊥) (IsExpectError fails value)
  expected_first t (Ok held) h k value begins none =
      let read = expect_answers holds is_of fails Rfc9651 t (Ok held) h in
      none held (read.2 ∙ begins_with_its Rfc9651 value t read.0 read.1 begins)
  expected_first t (Err (Syntax e)) h k value begins none = (expect_first holds is_of fails Rfc9651 t value begins none).0 e k
  expected_first t (Err (Visitor fault)) h k value begins none =
      (expect_first holds is_of fails Rfc9651 t value begins none).1 fault k

-- a string that was kept is the one that was read
pub lent_string : {E : Type 0} (t : List ℕ) (r : Result StringFromInput E)
    → IfOk r (λ text. (read : ReadBareItem) × (read ≡ bare_items.String text)
    × (stands : BeginsWithLongest Rfc9651 (input_value read) t) × IsBorrowedIfPlain read stands.front)
    → IfOk r (λ text. IsLentString text t)
lent_string t (Ok text) h =
    let k : (stands : BeginsWithLongest Rfc9651 (input_value (bare_items.String text)) t)
    × IsBorrowedIfPlain (bare_items.String text) stands.front = subst (λ (read : ReadBareItem).
    (stands : BeginsWithLongest Rfc9651 (input_value read) t) × IsBorrowedIfPlain read stands.front) h.1 (h.2, h.3) in
    (k.0, k.1)
lent_string t (Err e) h = tt

-- what holds of the error alone
pub of_error_alone : {A E : Type 0} (P : A → Type 0) (Q : E → Type 0) (r : Result A E) → MatchResult r P Q → IfErr r Q
of_error_alone P Q (Ok value) h = tt
of_error_alone P Q (Err e) h = h

-- what a reading with a visitor rejects, `parse` rejects, or the visitor does
pub read_failed : {O E : Type 0} (P Q : ParseError E → Type 0) (holds : E → Type 0) (kind : FieldKind) (t : List ℕ)
    → ((e : Error) → P (Syntax e) → IsParseError Rfc9651 kind t e) → ((f : E) → Q (Visitor f) → holds f)
    → (r : Result O (ParseError E)) → IfErr r P → IfErr r Q → IfErr r (IsReadError holds kind t)
read_failed P Q holds kind t syntax visitor (Ok value) h k = tt
read_failed P Q holds kind t syntax visitor (Err (Syntax e)) h k = syntax e h
read_failed P Q holds kind t syntax visitor (Err (Visitor fault)) h k = visitor fault k

-- a token's type rejects each bare item of this value, or none
pub token_error : (value : BareValue) (e : ParseError ItemFault)
    → IsExpectError (λ read. IsWrongType kinds.Token (input_value read)) value e → IsTokenError value e
token_error value (Syntax e) h = h
token_error value (Visitor fault) h = subst (λ (v : BareValue). IsWrongType kinds.Token v fault) h.1 h.2

pub token_result : (value : BareValue) (P : TokenRef → Type 0) (r : Result TokenRef (ParseError ItemFault))
    → MatchResult r P (IsExpectError (λ read. IsWrongType kinds.Token (input_value read)) value)
    → MatchResult r P (IsTokenError value)
token_result value P (Ok name) h = h
token_result value P (Err e) h = token_error value e h
