-- What is written of a priority is read as it, under both versions.
use Rattle.std.proofs.Common.{◌≡◌, ℕ, ◌+◌, ◌≤◌, ◌<◌, List, [], ◌∷◌, ◌++◌, Bool, true, false, refl, subst, arith, nat_le}
use Rattle.std.proofs.{Common.{◌==◌, ◌^◌, codes, if◌then◌else◌}, lemmas.Fmt.decimal_digit}
use Rattle.sfv.specs.{Ascii.byte, Canonical.canonical, Ordered.last_of, Statements.{IsParsedAs, IsValue}}
use Rattle.sfv.specs.{Texts.joined, Types.{dictionary_field, Version, Rfc8941}, Values.{Fits, IsFieldValue}}
use Rattle.sfv.proofs.Callers.{read_back_either, ordered_same, IsOrdered}
use Rattle.sfv_http_fields.specs.Priority.{PriorityValue, priority, priority_text, IsPriorityOf}
use Rattle.sfv_http_fields.specs.PrioritySteps.{members_by, members_of}

abbrev text_by : Bool → Bool → ℕ → List ℕ
text_by d i n = joined (codes ", ")
    ((if d then [] else (codes "u=" ++ (byte "0" + n) ∷ []) ∷ []) ++ (if i then codes "i" ∷ [] else []))

same_text : (d i : Bool) (n : ℕ) → n ≤ 7 → canonical dictionary_field (members_by d i n) ≡ text_by d i n
same_text true true n h = refl
same_text true false n h = refl
same_text false true n h = let small : n < 10 = omega (arith, h) in rw (decimal_digit n small) refl
same_text false false n h = let small : n < 10 = omega (arith, h) in rw (decimal_digit n small) refl

pub written_text : (p : PriorityValue) → p.urgency ≤ 7 → canonical dictionary_field (members_of p) ≡ priority_text p
written_text p h = same_text (p.urgency == 3) p.incremental p.urgency h

-- each is a value
is_value : (d i : Bool) (n : ℕ) → n ≤ 7 → IsValue dictionary_field (members_by d i n)
is_value d i n h = record { parts = parts d i; distinct = ordered_same dictionary_field (members_by d i n) (distinct d i) }
  where
    small : n < 10 ^ 15
    small = omega (arith, h)

    parts : (d i : Bool) → IsFieldValue dictionary_field (members_by d i n)
    parts true true = ((refl, (tt, tt)), tt)
    parts true false = tt
    parts false true = ((refl, (small, tt)), ((refl, (tt, tt)), tt))
    parts false false = ((refl, (small, tt)), tt)

    distinct : (d i : Bool) → IsOrdered dictionary_field (members_by d i n)
    distinct true true = (refl, (refl, tt))
    distinct true false = (refl, tt)
    distinct false true = (refl, (refl, (refl, tt)))
    distinct false false = (refl, (refl, tt))

-- of which this is the priority
within : (n : ℕ) → n ≤ 7 → nat_le n 7 ≡ true
within n h = grind (arith, h)

three : (n : ℕ) → (n == 3) ≡ true → n ≡ 3
three n h = grind (arith, h)

its_priority : (d i : Bool) (n : ℕ) → n ≤ 7 → (n == 3) ≡ d
    → record { urgency = n; incremental = i } ≡ priority (members_by d i n)
unfolding last_of
its_priority true true n h k = rw (three n k) refl
its_priority true false n h k = rw (three n k) refl
its_priority false true n h k = rw (within n h) refl
its_priority false false n h k = rw (within n h) refl

-- under both versions, which have Integers and Booleans
fits : (d i : Bool) (n : ℕ) → Fits Rfc8941 dictionary_field (members_by d i n)
fits true true n = (refl, tt)
fits true false n = tt
fits false true n = (refl, (refl, tt))
fits false false n = (refl, tt)

pub reads_back : (version : Version) (p : PriorityValue) → p.urgency ≤ 7 → IsPriorityOf version (priority_text p) p
reads_back version p h = (
  members_of p,
  subst (λ (t : List ℕ). IsParsedAs version dictionary_field t (members_of p)) (written_text p h)
      (read_back_either version dictionary_field (members_of p) (is_value (p.urgency == 3) p.incremental p.urgency h)
      (fits (p.urgency == 3) p.incremental p.urgency)),
  its_priority (p.urgency == 3) p.incremental p.urgency h refl,
)
