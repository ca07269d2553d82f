-- Room for the texts of calls, one after another.
use Rattle.std.proofs.Common.{◌≡◌, ◌≤◌, ◌<◌, ◌+◌, ℕ, Bool, true, false, List, [], ◌∷◌, ◌++◌, length, get_or, map, take}
use Rattle.std.proofs.Common.{drop, codes, refl, sym, ap, subst, ◌∙◌, arith, inl, inr, string_bytes, string_capacity}
use Rattle.std.proofs.Common.{Result, Ok, Err, Option, OnErr, filter_map, if◌then◌else◌, drop-cons, length-append}
use Rattle.std.specs.declared.string.String.{String}
use Rattle.std.proofs.lemmas.List.{map-append, Concat.flat_map-append}
use Rattle.sfv_spec.specs.{Canonical.{item_text, parameters_text}, Texts.joined}
use Rattle.sfv_spec.specs.{Values.{BareValue, RawItem, RawParameters, IsItem}, declared.version.Version.Version}
use Rattle.sfv_spec.{specs.declared.version.Version.TheVariants.Rfc9651, proofs.Given.newer_has_all}
use Rattle.sfv_values.specs.{BareItems.ref_value, CheckedTexts.text_of as key_text}
use Rattle.sfv_writer.specs.Versions.{NamesFirstUnfit, IsSerializeError}
use Rattle.sfv_writer.specs.Written.{LacksRoom, separator_before, with_separators, is_first_after, param_text}
use Rattle.sfv_writer.specs.declared.serialize_error.SerializeError.{SerializeError}
use Rattle.sfv_writer.proofs.{Checks.split_at, Room.{len_of, room_after, room_before}, RoomOfIterators.row_len}
use Rattle.sfv_writer.proofs.Separated.{IsLed, in_a_row_first}
use Rattle.sfv_serializer.specs.ScriptSteps.{ended_text, inner_list_calls, added_text, added_text_of_pair}
use Rattle.sfv_serializer.specs.Scripts.{param_of_call, item_of_calls}
use Rattle.sfv_serializer.specs.declared.script.{ItemCalls.ItemCalls, ParamCall.ParamCall}
use Rattle.sfv_serializer.proofs.Scripts.{in_a_row_append, is_first_after-map, named_inner}
use Rattle.sfv_writer.specs.declared.serialize_error.SerializeError.TheVariants as errors

-- no room for a part of a text means no room for the text
pub lacks_more : {Z : Type 0} (old output : String Z) (so_far one whole : List ℕ)
    → string_bytes output ≡ string_bytes old ++ so_far → string_capacity old ≤ string_capacity output
    → length so_far + length one ≤ length whole → LacksRoom output one → LacksRoom old whole
lacks_more old output so_far one whole e c l h =
    omega (arith, len_of old, len_of output, ap (length {A = ℕ}) e, length-append (string_bytes old) so_far, c, l, h)

-- the length of three texts
three_len : (a b c : List ℕ) → length (a ++ (b ++ c)) ≡ length a + (length b + length c)
three_len a b c = omega (arith, length-append a (b ++ c), length-append b c)

-- a next part without a separator
pub unseparated : {Z : Type 0} (old : String Z) (is_first : Bool) (text : List ℕ)
    → LacksRoom old (separator_before is_first [] ++ text) → LacksRoom old text
unseparated old true text h = h
unseparated old false text h = h

-- ---- parameters

module _ (calls : List ParamCall) (n : ℕ) (x : ParamCall) (lt : n < length calls) (is : x ≡ get_or calls n x) where
  -- some and one more are no longer than all
  params_len : length (parameters_text (map param_of_call (take n calls)))
      + length (param_text (key_text x.key) (ref_value x.value)) ≤ length (parameters_text (map param_of_call calls))
  params_len =
      let p = split_at calls n x lt is in
      let front : RawParameters = map param_of_call (take n calls) in
      let after : RawParameters = map param_of_call p.0 in
      let one : List ℕ = param_text (key_text x.key) (ref_value x.value) in
      let whole : parameters_text (map param_of_call calls) ≡ parameters_text front ++ (one ++ parameters_text after) =
      ap (λ cs. parameters_text (map param_of_call cs)) p.1 ∙ ap parameters_text (map-append param_of_call
      (take n calls) (x ∷ p.0)) ∙ flat_map-append (λ p. param_text p.0 p.1) front (param_of_call x ∷ after) in
      omega (arith, ap (length {A = ℕ}) whole, three_len (parameters_text front) one (parameters_text after))

  -- there is no room for one more
  pub params_lack : {Z : Type 0} (old output : String Z) (front head : List ℕ)
      → string_bytes output ≡ string_bytes old ++ (front ++ (head ++ parameters_text (map param_of_call (take n calls))))
      → string_capacity old ≤ string_capacity output
      → LacksRoom output (param_text (key_text x.key) (ref_value x.value))
      → LacksRoom old (front ++ (head ++ parameters_text (map param_of_call calls)))
  params_lack old output front head e c h =
      let so_far : List ℕ = parameters_text (map param_of_call (take n calls)) in
      let all : List ℕ = parameters_text (map param_of_call calls) in
      lacks_more old output (front ++ (head ++ so_far)) (param_text (key_text x.key) (ref_value x.value))
      (front ++ (head ++ all)) e c (omega (arith, params_len, three_len front head so_far, three_len front head all)) h

-- ---- an inner list

module _ {Z : Type 0} (old : String Z) (front opening : List ℕ) (items : List RawItem) (params : RawParameters) where
  inside : List ℕ
  inside = joined (codes " ") (map item_text items)

  whole_len : length (front ++ ended_text opening items params)
      ≡ length front + (length opening + (length inside + (1 + length (parameters_text params))))
  unfolding inside
  whole_len =
      let inner : List ℕ = joined (codes " ") (map item_text items) in
      let all : length (front ++ ended_text opening items params)
      ≡ length (front ++ (((opening ++ inner) ++ codes ")") ++ parameters_text params)) = refl in
      omega (
        arith,
        all,
        length-append front (((opening ++ inner) ++ codes ")") ++ parameters_text params),
        length-append ((opening ++ inner) ++ codes ")") (parameters_text params),
        length-append (opening ++ inner) (codes ")"),
        length-append opening inner,
      )

  -- there is no room for its beginning
  pub opening_lacks : (abandon : Bool) → LacksRoom old (front ++ opening)
      → LacksRoom old (front ++ (if abandon then opening ++ joined (codes " ") (map item_text items)
      else ended_text opening items params))
  opening_lacks true h =
      omega (arith, three_len front opening (joined (codes " ") (map item_text items)), length-append front opening, h)
  opening_lacks false h = omega (arith, whole_len, length-append front opening, h)

  module _ (begun : String Z) (none : Bool) (begins : string_bytes begun ≡ string_bytes old ++ (front ++ opening))
      (first : none ≡ true) (grown : string_capacity old ≤ string_capacity begun) where
    row : length (with_separators none (codes " ") (map item_text items)) ≡ length inside
    unfolding inside
    row = ap (length {A = ℕ}) (ap (λ (b : Bool). with_separators b (codes " ") (map item_text items)) first
        ∙ in_a_row_first (codes " ") (map item_text items))

    -- there is no room for an item
    items_lack : LacksRoom begun (with_separators none (codes " ") (map item_text items))
        → LacksRoom old (front ++ ended_text opening items params)
    items_lack h =
        let written : List ℕ = with_separators none (codes " ") (map item_text items) in
        lacks_more old begun (front ++ opening) written (front ++ ended_text opening items params) begins grown
        (omega (arith, whole_len, row, length-append front opening)) h

    pub either_lacks : (abandon : Bool) → LacksRoom begun (with_separators none (codes " ") (map item_text items))
        → LacksRoom old (front ++ (if abandon then opening ++ joined (codes " ") (map item_text items)
        else ended_text opening items params))
    unfolding inside
    either_lacks true h =
        let written : List ℕ = with_separators none (codes " ") (map item_text items) in
        let inner : List ℕ = joined (codes " ") (map item_text items) in
        let same : length inside ≡ length inner = refl in
        lacks_more old begun (front ++ opening) written (front ++ (opening ++ inner)) begins grown
        (omega (arith, row, same, three_len front opening inner, length-append front opening)) h
    either_lacks false h = items_lack h

    module _ (filled : String Z) (fills : string_bytes filled ≡ string_bytes begun ++ with_separators none (codes " ") (map item_text items))
        (more : string_capacity begun ≤ string_capacity filled) where
      -- for its end
      pub ending_lacks : LacksRoom filled (codes ")") → LacksRoom old (front ++ ended_text opening items params)
      ending_lacks h =
          let written : List ℕ = with_separators none (codes " ") (map item_text items) in
          lacks_more old begun (front ++ opening) (written ++ codes ")") (front ++ ended_text opening items params) begins
          grown (omega (arith, whole_len, row, length-append front opening, length-append written (codes ")")))
          (room_after begun filled written (codes ")") fills more h)

      -- for its parameters
      pub params_after_lack : (ended : String Z) → string_bytes ended ≡ string_bytes filled ++ codes ")"
          → string_capacity filled ≤ string_capacity ended → LacksRoom ended (parameters_text params)
          → LacksRoom old (front ++ ended_text opening items params)
      params_after_lack ended ends most h =
          let written : List ℕ = with_separators none (codes " ") (map item_text items) in
          let after : List ℕ = codes ")" ++ parameters_text params in
          lacks_more old begun (front ++ opening) (written ++ after) (front ++ ended_text opening items params) begins
          grown
          (omega (
            arith,
            whole_len,
            row,
            length-append front opening,
            length-append written after,
            length-append (codes ")") (parameters_text params),
          ))
          (room_after begun filled written after fills more
          (room_after filled ended (codes ")") (parameters_text params) ends most h))

-- ---- members

-- an inner list, abandoned or not
pub list_inner_lacks : {Z : Type 0} (old : String Z) (b : Bool) (items : List ItemCalls) (params : List ParamCall)
    (abandon : Bool)
    → LacksRoom old (separator_before b (codes ", ")
    ++ (if abandon then codes "(" ++ joined (codes " ") (map item_text (map item_of_calls items))
    else ended_text (codes "(") (map item_of_calls items) (map param_of_call params)))
    → LacksRoom old (with_separators b (codes ", ") (added_text (inner_list_calls items params abandon) ∷ []))
list_inner_lacks old b items params true h = room_before old _ [] h
list_inner_lacks old b items params false h = room_before old _ [] h

-- the same after its key
pub dictionary_inner_lacks : {Z : Type 0} (old : String Z) (b : Bool) (key : List ℕ) (items : List ItemCalls)
    (params : List ParamCall) (abandon : Bool)
    → LacksRoom old (separator_before b (codes ", ")
    ++ (if abandon then (key ++ codes "=(") ++ joined (codes " ") (map item_text (map item_of_calls items))
    else ended_text (key ++ codes "=(") (map item_of_calls items) (map param_of_call params)))
    → LacksRoom old (with_separators b (codes ", ") (added_text_of_pair (key, inner_list_calls items params abandon) ∷ []))
dictionary_inner_lacks old b key items params true h = room_before old _ [] h
dictionary_inner_lacks old b key items params false h = room_before old _ [] (subst (λ (l : List ℕ). LacksRoom old
    (separator_before b (codes ", ") ++ l)) (named_inner key (map item_of_calls items) (map param_of_call params)) h)

-- a consequence for an error
pub on_err : {T E P Q : Type 0} (r : Result T E) → (P → Q) → OnErr r P → OnErr r Q
on_err (Ok x) f h = h
on_err (Err e) f h = f h

-- the member of a call, after the members before it
pub calls_lack : {C D M Z : Type 0} (given : D → Option M) (added : D → List ℕ) (f : C → D) (text_of : M → List ℕ)
    (IsGood : M → Type 0) (s : List ℕ) (calls : List C) (n : ℕ) (x : C) (was_first is_first : Bool) (old output : String Z)
    → n < length calls → x ≡ get_or calls n x
    → IsLed text_of IsGood s (filter_map given (map f (take n calls))) was_first is_first (string_bytes old)
    (string_bytes output)
    → string_capacity old ≤ string_capacity output → LacksRoom output (with_separators is_first s (added (f x) ∷ []))
    → (n : ℕ) × LacksRoom old (with_separators was_first s
    (map text_of (filter_map given (map f (take n calls))) ++ map added (map f (take 1 (drop n calls)))))
calls_lack {C} {M = M} given added f text_of IsGood s calls n x was_first is_first old output lt is row c h =
    let before : List M = filter_map given (map f (take n calls)) in
    let so_far : List ℕ = with_separators was_first s (map text_of before) in
    let own : List (List ℕ) = added (f x) ∷ [] in
    let one : take 1 (drop n calls) ≡ x ∷ [] = ap (take 1) (drop-cons calls n x lt) ∙ ap (λ (y : C). y ∷ []) (sym is) in
    let flag : is_first_after was_first (map text_of before) ≡ is_first =
    is_first_after-map text_of was_first before ∙ sym row.first in
    let whole : with_separators was_first s (map text_of before ++ map added (map f (take 1 (drop n calls))))
    ≡ so_far ++ with_separators is_first s own = ap (λ (cs : List C). with_separators was_first s
    (map text_of before ++ map added (map f cs))) one ∙ in_a_row_append s was_first (map text_of before) own
    ∙ ap (λ (b : Bool). so_far ++ with_separators b s own) flag in (
      n,
      subst (λ (l : List ℕ). LacksRoom old l) (sym whole)
          (room_after old output so_far (with_separators is_first s own) row.text c h),
    )

-- ---- under RFC 9651 a call fails only if memory runs out

pub memory_lacks : {Z : Type 0} (version : Version) (values : List BareValue) (old : String Z) (text : List ℕ)
    (e : SerializeError) → version ≡ Rfc9651 → IsSerializeError version values e
    → (e ≡ errors.OutOfMemory → LacksRoom old text) → LacksRoom old text
memory_lacks version values old text e newer (inl k) h = h k.0
memory_lacks version values old text e newer (inr k) h =
    let first = subst (λ (v : Version). NamesFirstUnfit v values e) newer k in absurd (newer_has_all values first.0 first.1)

-- ---- items of an inner list

pub next_item_lacks : {Z : Type 0} (items : List ItemCalls) (n : ℕ) (x : ItemCalls)
    (was_first is_first : Bool) (old output : String Z) → n < length items → x ≡ get_or items n x
    → IsLed item_text IsItem (codes " ") (map item_of_calls (take n items)) was_first is_first (string_bytes old)
    (string_bytes output) → string_capacity old ≤ string_capacity output
    → LacksRoom output (separator_before is_first (codes " ") ++ item_text (item_of_calls x))
    → LacksRoom old (with_separators was_first (codes " ") (map item_text (map item_of_calls items)))
next_item_lacks items n x was_first is_first old output lt is row c h =
    let p = split_at items n x lt is in
    let so_far : List (List ℕ) = map item_text (map item_of_calls (take n items)) in
    let one : List ℕ = item_text (item_of_calls x) in
    let after : List (List ℕ) = map item_text (map item_of_calls p.0) in
    let whole : map item_text (map item_of_calls items) ≡ so_far ++ one ∷ after =
    ap (λ (cs : List ItemCalls). map item_text (map item_of_calls cs)) p.1
    ∙ ap (map item_text) (map-append item_of_calls (take n items) (x ∷ p.0))
    ∙ map-append item_text (map item_of_calls (take n items)) (item_of_calls x ∷ map item_of_calls p.0) in
    let flag : is_first_after was_first so_far ≡ is_first =
    is_first_after-map item_text was_first (map item_of_calls (take n items)) ∙ sym row.first in
    let long = subst (λ (b : Bool). length (with_separators was_first (codes " ") so_far) + length (separator_before b (codes " ")) + length one
    ≤ length (with_separators was_first (codes " ") (so_far ++ one ∷ after))) flag (row_len (codes " ") was_first so_far one after) in
    lacks_more old output (with_separators was_first (codes " ") so_far) (separator_before is_first (codes " ") ++ one)
    (with_separators was_first (codes " ") (map item_text (map item_of_calls items))) row.text c
    (rw whole (omega (arith, long, length-append (separator_before is_first (codes " ")) one))) h
