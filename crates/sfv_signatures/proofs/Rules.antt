-- The rules of identifiers, over lists.
use Rattle.std.proofs.Common.{◌≡◌, ℕ, zero, suc, List, [], ◌∷◌, ◌++◌, length, refl, sym, ◌∙◌, ap, subst, true, false}
use Rattle.std.proofs.Common.{arith, inl, inr, append_assoc, Bool, not, Some, Result, Ok, Err, if◌then◌else◌, nat_lt}
use Rattle.std.proofs.Common.{slice_get, take, append-nil}
use Rattle.std.{specs.List.{list_any, list_all, AllByRecursion}, proofs.lemmas.Bool.{and_from, or_parts}}
use Rattle.sfv.specs.Field.{BareValue, integer, decimal, string, token, byte_sequence, boolean, date, display_string}
use Rattle.sfv.specs.{Field.{RawParameters, RawItem, RawInnerList}, Texts.RunOf}
use Rattle.sfv_signatures.specs.SignatureBase.{Message, is_line_break, checked, GivesFor, Gives, HaveValues, IsBaseOf}
use Rattle.sfv_signatures.specs.SignatureBase.{BreaksFirst, AreComponents, HasOneOutcome, BaseOrRule}
use Rattle.sfv_signatures.{specs.declared.base_error.BaseErrorKind.BaseErrorKind, proofs.Feeds.is_line_byte}
use Rattle.sfv_signatures.specs.declared.base_error.BaseErrorKind.TheVariants as kinds

-- ---- one identifier

unbroken : (c : ℕ) → is_line_break c ≡ false → is_line_byte c ≡ true
unbroken c h = grind arith

unbroken_run : (v : List ℕ) → list_any is_line_break v ≡ false → RunOf is_line_byte v
unbroken_run [] h = refl
unbroken_run (c ∷ v) h = let p = or_parts (is_line_break c) (list_any is_line_break v) h in
    and_from (is_line_byte c) (list_all is_line_byte v) (unbroken c p.0) (unbroken_run v p.1)

ok_tests : (ascii b : Bool) (x y : BaseErrorKind) (w v : List ℕ)
    → (if not ascii then Err y else if b then Err x else Ok w) ≡ Ok v → (b ≡ false) × (w ≡ v)
ok_tests true true x y w v h = absurd (cc)
ok_tests true false x y w v h = (refl, cc)
ok_tests false b x y w v h = absurd (cc)

checked_line : (r : Result (List ℕ) BaseErrorKind) (v : List ℕ) → checked r ≡ Ok v → RunOf is_line_byte v
checked_line (Err kind) v h = absurd (cc)
checked_line (Ok w) v h =
    let k = ok_tests (list_all (λ c. nat_lt c 128) w) (list_any is_line_break w) kinds.LineBreak kinds.NotAscii w v h in
    subst (RunOf is_line_byte) k.1 (unbroken_run w k.0)

gives_line : (message : Message) (ps : RawParameters) (b : BareValue) (v : List ℕ) → GivesFor message ps b (Ok v)
    → RunOf is_line_byte v
gives_line message ps (string name) v (inl h) = absurd (let e = h.1 in cc)
gives_line message ps (string name) v (inr h) = checked_line h.1.0 v (sym h.1.2)
gives_line message ps (integer z) v h = absurd (cc)
gives_line message ps (decimal z) v h = absurd (cc)
gives_line message ps (token t) v h = absurd (cc)
gives_line message ps (byte_sequence b) v h = absurd (cc)
gives_line message ps (boolean b) v h = absurd (cc)
gives_line message ps (date z) v h = absurd (cc)
gives_line message ps (display_string s) v h = absurd (cc)

-- one identifier has one outcome
gives_one : (message : Message) → HasOneOutcome message → (ps : RawParameters) (b : BareValue)
    (r s : Result (List ℕ) BaseErrorKind) → GivesFor message ps b r → GivesFor message ps b s → r ≡ s
gives_one message one ps (string name) r s (inl h) (inl k) = h.1 ∙ sym k.1
gives_one message one ps (string name) r s (inl h) (inr k) = absurd (k.0 h.0)
gives_one message one ps (string name) r s (inr h) (inl k) = absurd (h.0 k.0)
gives_one message one ps (string name) r s (inr h) (inr k) =
    h.1.2 ∙ ap checked (one name ps h.1.0 k.1.0 h.1.1 k.1.1) ∙ sym k.1.2
gives_one message one ps (integer z) r s h k = h ∙ sym k
gives_one message one ps (decimal z) r s h k = h ∙ sym k
gives_one message one ps (token t) r s h k = h ∙ sym k
gives_one message one ps (byte_sequence b) r s h k = h ∙ sym k
gives_one message one ps (boolean b) r s h k = h ∙ sym k
gives_one message one ps (date z) r s h k = h ∙ sym k
gives_one message one ps (display_string t) r s h k = h ∙ sym k

-- an identifier has one outcome
outcome_one : (message : Message) → HasOneOutcome message → (pre : List RawItem) (i : RawItem)
    (r s : Result (List ℕ) BaseErrorKind) → Gives message pre i r → Gives message pre i s → r ≡ s
outcome_one message one pre i r s (inl h) (inl k) = h.1 ∙ sym k.1
outcome_one message one pre i r s (inl h) (inr k) = absurd (k.0 h.0)
outcome_one message one pre i r s (inr h) (inl k) = absurd (h.0 k.0)
outcome_one message one pre i r s (inr h) (inr k) = gives_one message one i.parameters i.bare r s h.1 k.1

value_line : (message : Message) (pre : List RawItem) (i : RawItem) (v : List ℕ) → Gives message pre i (Ok v)
    → RunOf is_line_byte v
value_line message pre i v (inl h) = absurd (let e = h.1 in cc)
value_line message pre i v (inr h) = gives_line message i.parameters i.bare v h.1

-- ---- identifiers in order

pub values_counted : (message : Message) (pre is : List RawItem) (vs : List (List ℕ)) → HaveValues message pre is vs
    → length vs ≡ length is
values_counted message pre [] [] h = refl
values_counted message pre [] (v ∷ vs) h = absurd h
values_counted message pre (i ∷ is) [] h = absurd h
values_counted message pre (i ∷ is) (v ∷ vs) h = omega (arith, values_counted message (pre ++ i ∷ []) is vs h.1)

values_lines : (message : Message) (pre is : List RawItem) (vs : List (List ℕ)) → HaveValues message pre is vs
    → AllByRecursion (RunOf is_line_byte) vs
values_lines message pre [] [] h = tt
values_lines message pre [] (v ∷ vs) h = absurd h
values_lines message pre (i ∷ is) [] h = absurd h
values_lines message pre (i ∷ is) (v ∷ vs) h =
    (value_line message pre i v h.0, values_lines message (pre ++ i ∷ []) is vs h.1)

pub values_snoc : (message : Message) (pre is : List RawItem) (vs : List (List ℕ)) (i : RawItem) (v : List ℕ)
    → HaveValues message pre is vs → Gives message (pre ++ is) i (Ok v)
    → HaveValues message pre (is ++ i ∷ []) (vs ++ v ∷ [])
values_snoc message pre [] [] i v h k = (subst (λ b. Gives message b i (Ok v)) (append-nil pre) k, tt)
values_snoc message pre [] (w ∷ vs) i v h k = absurd h
values_snoc message pre (j ∷ is) [] i v h k = absurd h
values_snoc message pre (j ∷ is) (w ∷ vs) i v h k = (
  h.0,
  values_snoc message (pre ++ j ∷ []) is vs i v h.1
      (subst (λ b. Gives message b i (Ok v)) (sym (append_assoc pre (j ∷ []) is)) k),
)

-- ---- the outcome

pub base_components : (message : Message) (l : RawInnerList) (t : List ℕ) → (h : IsBaseOf message l t)
    → AreComponents l h.values
base_components message l t h = record {
  list = h.list;
  counted = values_counted message [] l.items h.values h.found;
  lines = values_lines message [] l.items h.values h.found;
}

module _ (message : Message) (one : HasOneOutcome message) where
  -- an identifier that breaks a rule has no value
  no_value : (pre : List RawItem) (i : RawItem) (v : List ℕ) (kind : BaseErrorKind) → Gives message pre i (Ok v)
      → Gives message pre i (Err kind) → ⊥
  no_value pre i v kind h k = absurd (let e = outcome_one message one pre i (Ok v) (Err kind) h k in cc)

  -- the first of a list, after `pre`
  at_front : (pre : List RawItem) (x i : RawItem) (r : Result (List ℕ) BaseErrorKind) → Some x ≡ Some i
      → Gives message (pre ++ []) i r → Gives message pre x r
  at_front pre x i r e h =
      let same : i ≡ x = cc in subst (λ j. Gives message pre j r) same
      (subst (λ b. Gives message b i r) (append-nil pre) h)

  -- one of the others, after `pre` and the first
  at_rest : (pre : List RawItem) (x : RawItem) (rest : List RawItem) (i : RawItem) (r : Result (List ℕ) BaseErrorKind)
      → Gives message (pre ++ x ∷ rest) i r → Gives message ((pre ++ x ∷ []) ++ rest) i r
  at_rest pre x rest i r h = subst (λ b. Gives message b i r) (sym (append_assoc pre (x ∷ []) rest)) h

  none_at : (pre is : List RawItem) (vs : List (List ℕ)) (n : ℕ) (i : RawItem) (kind : BaseErrorKind)
      → HaveValues message pre is vs → slice_get is n ≡ Some i → Gives message (pre ++ take n is) i (Err kind) → ⊥
  none_at pre [] vs n i kind h e k = absurd (cc)
  none_at pre (x ∷ is) [] n i kind h e k = h
  none_at pre (x ∷ is) (v ∷ vs) zero i kind h e k = no_value pre x v kind h.0 (at_front pre x i (Err kind) e k)
  none_at pre (x ∷ is) (v ∷ vs) (suc n) i kind h e k =
      none_at (pre ++ x ∷ []) is vs n i kind h.1 e (at_rest pre x (take n is) i (Err kind) k)

  -- the places of two broken rules, each after values, are the same, and so are the rules
  one_place : (pre is : List RawItem) (a b : ℕ) (i j : RawItem) (vs ws : List (List ℕ)) (kind other : BaseErrorKind)
      → slice_get is a ≡ Some i → slice_get is b ≡ Some j → HaveValues message pre (take a is) vs
      → HaveValues message pre (take b is) ws → Gives message (pre ++ take a is) i (Err kind)
      → Gives message (pre ++ take b is) j (Err other) → (kind ≡ other) × (a ≡ b)
  one_place pre [] a b i j vs ws kind other d e h k p q = absurd (cc)
  one_place pre (x ∷ is) zero zero i j vs ws kind other d e h k p q =
      let same = outcome_one message one pre x (Err kind) (Err other) (at_front pre x i (Err kind) d p)
      (at_front pre x j (Err other) e q) in (cc, refl)
  one_place pre (x ∷ is) zero (suc b) i j vs [] kind other d e h k p q = absurd k
  one_place pre (x ∷ is) zero (suc b) i j vs (w ∷ ws) kind other d e h k p q =
      absurd (no_value pre x w kind k.0 (at_front pre x i (Err kind) d p))
  one_place pre (x ∷ is) (suc a) zero i j [] ws kind other d e h k p q = absurd h
  one_place pre (x ∷ is) (suc a) zero i j (v ∷ vs) ws kind other d e h k p q =
      absurd (no_value pre x v other h.0 (at_front pre x j (Err other) e q))
  one_place pre (x ∷ is) (suc a) (suc b) i j [] ws kind other d e h k p q = absurd h
  one_place pre (x ∷ is) (suc a) (suc b) i j (v ∷ vs) [] kind other d e h k p q = absurd k
  one_place pre (x ∷ is) (suc a) (suc b) i j (v ∷ vs) (w ∷ ws) kind other d e h k p q =
      let r = one_place (pre ++ x ∷ []) is a b i j vs ws kind other d e h.1 k.1
      (at_rest pre x (take a is) i (Err kind) p) (at_rest pre x (take b is) j (Err other) q) in
      (r.0, omega (arith, r.1))

pub base_or_rule_lem : (message : Message) → BaseOrRule message
base_or_rule_lem message one l kind index (i, at, rule, (values, found)) =
    (λ t k. none_at message one [] l.items k.values index i kind k.found at rule, only)
  where
    only : (other : BaseErrorKind) (place : ℕ) → BreaksFirst message l other place → (other ≡ kind) × (place ≡ index)
    only other place (j, here, broken, (ws, those)) =
        one_place message one [] l.items place index j i ws values other kind here at those found broken rule
