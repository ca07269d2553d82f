-- What the calls of a script describe, by their members and by their steps.
use Rattle.std.proofs.Common.{◌≡◌, ℕ, ◌-◌, Bool, true, false, List, [], ◌∷◌, ◌++◌, length, map, take, drop, codes, refl}
use Rattle.std.proofs.Common.{sym, ap, ◌∙◌, subst, arith, filter, if◌then◌else◌, flat_map, Result, Ok, Err, OnErr}
use Rattle.std.proofs.Common.{length-append, append-nil}
use Rattle.std.specs.declared.{alloc.Global.Global, string.String.String, vec.Vec.Vec}
use Rattle.std.proofs.{Math.Seq.take-append_seam, lemmas.Simd.map-map}
use Rattle.sfv_spec.specs.Canonical.{item_text, member_text, dictionary_member_text}
use Rattle.sfv_spec.specs.{Texts.joined, Values.{RawItem, RawMember, item, inner_list, Fits, member_values}}
use Rattle.sfv_spec.specs.declared.field_kind.FieldKind.TheVariants.{List as list_field, Dictionary as dictionary_field}
use Rattle.sfv_spec.{specs.declared.version.Version.Version, proofs.Fields.{fit_split, fit_append}}
use Rattle.sfv_values.specs.{CheckedTexts.text_of, KeyText.KeyRef}
use Rattle.sfv_writer.specs.Written.{LacksRoom}
use Rattle.sfv_serializer.specs.ScriptSteps.{supplied_member, member_calls, list_calls, dictionary_calls}
use Rattle.sfv_serializer.specs.ScriptSteps.{list_described, dictionary_described, supplied_list, supplied_dictionary}
use Rattle.sfv_serializer.specs.ScriptSteps.{added_text, added_text_of_pair, tried_list, tried_dictionary, LacksForTry}
use Rattle.sfv_serializer.specs.Scripts.{item_of_calls, member_of_calls, entry_of_calls, is_written, described_list}
use Rattle.sfv_serializer.specs.Scripts.{described_dictionary, LacksForListCall, LacksForEntryCall}
use Rattle.sfv_serializer.specs.declared.script.{ItemCalls.ItemCalls, MemberCalls.MemberCalls, ParamCall.ParamCall}
use Rattle.sfv_serializer.proofs.Scripts.{named_inner}
use Rattle.sfv_serializer.specs.declared.script.MemberCalls.TheVariants as calls

-- ---- examples: an item, an inner list that is abandoned or finished, and an item

abandoned_is_not_described : (a b : ItemCalls) (items : Vec ItemCalls Global) (params : Vec ParamCall Global)
    → described_list (calls.Item a ∷ calls.InnerList items params true ∷ calls.Item b ∷ [])
    ≡ item (item_of_calls a) ∷ item (item_of_calls b) ∷ []
abandoned_is_not_described a b items params = refl

-- only an abandoned inner list: no member
nothing_is_described : (items : Vec ItemCalls Global) (params : Vec ParamCall Global)
    → described_list (calls.InnerList items params true ∷ []) ≡ []
nothing_is_described items params = refl

-- ---- members

supplied_is : (m : MemberCalls) → supplied_member (member_calls m) ≡ member_of_calls m
supplied_is (calls.Item i) = refl
supplied_is (calls.InnerList items params true) = refl
supplied_is (calls.InnerList items params false) = refl

pub supplied_list_is : (ms : List MemberCalls) → supplied_list ms ≡ map member_of_calls ms
supplied_list_is [] = refl
supplied_list_is (m ∷ ms) = ap (λ (x : RawMember). x ∷ supplied_list ms) (supplied_is m)
    ∙ ap (λ (l : List RawMember). member_of_calls m ∷ l) (supplied_list_is ms)

pub supplied_dictionary_is : (ms : List (KeyRef × MemberCalls)) → supplied_dictionary ms ≡ map entry_of_calls ms
supplied_dictionary_is [] = refl
supplied_dictionary_is (m ∷ ms) = ap (λ (x : RawMember). (text_of m.0, x) ∷ supplied_dictionary ms) (supplied_is m.1)
    ∙ ap (λ (l : List (List ℕ × RawMember)). entry_of_calls m ∷ l) (supplied_dictionary_is ms)

pub list_described_is : (ms : List MemberCalls) → list_described ms ≡ described_list ms
list_described_is [] = refl
list_described_is (calls.Item i ∷ ms) =
    ap (λ (l : List RawMember). member_of_calls (calls.Item i) ∷ l) (list_described_is ms)
list_described_is (calls.InnerList items params true ∷ ms) = list_described_is ms
list_described_is (calls.InnerList items params false ∷ ms) =
    ap (λ (l : List RawMember). member_of_calls (calls.InnerList items params false) ∷ l) (list_described_is ms)

pub dictionary_described_is : (ms : List (KeyRef × MemberCalls)) → dictionary_described ms ≡ described_dictionary ms
dictionary_described_is [] = refl
dictionary_described_is ((key, calls.Item i) ∷ ms) =
    ap (λ (l : List (List ℕ × RawMember)). entry_of_calls (key, calls.Item i) ∷ l) (dictionary_described_is ms)
dictionary_described_is ((key, calls.InnerList items params true) ∷ ms) = dictionary_described_is ms
dictionary_described_is ((key, calls.InnerList items params false) ∷ ms) = ap (λ (l : List
    (List ℕ × RawMember)). entry_of_calls (key, calls.InnerList items params false) ∷ l) (dictionary_described_is ms)

-- ---- the text that a call appends

-- without its last byte
without_last : (t : List ℕ) (c : ℕ) → take (length (t ++ c ∷ []) - 1) (t ++ c ∷ []) ≡ t
without_last t c =
    let long : length (t ++ c ∷ []) - 1 ≡ length t = omega (arith, length-append t (c ∷ [])) in
    ap (λ (n : ℕ). take n (t ++ c ∷ [])) long ∙ take-append_seam t (c ∷ [])

last_of : (whole t : List ℕ) (c : ℕ) → whole ≡ t ++ c ∷ [] → take (length whole - 1) whole ≡ t
last_of whole t c e = ap (λ (l : List ℕ). take (length l - 1) l) e ∙ without_last t c

-- an inner list without parameters
abbrev opened : List RawItem → List ℕ
opened items = codes "(" ++ joined (codes " ") (map item_text items)

closed : (items : List RawItem) → member_text (inner_list (record { items = items; parameters = [] })) ≡ opened items ++ codes ")"
closed items = append-nil (opened items ++ codes ")")

abbrev added : {A : Type 0} → (A → Bool) → (A → List ℕ) → A → List ℕ
added is_written text c = if is_written c then text c else take (length (text c) - 1) (text c)

added_is : (m : MemberCalls) → added_text (member_calls m) ≡ added is_written (λ c. member_text (member_of_calls c)) m
added_is (calls.Item i) = refl
added_is (calls.InnerList items params true) =
    let raw : List RawItem = map item_of_calls items.items in
    sym (last_of (member_text (inner_list (record { items = raw; parameters = [] }))) (opened raw) _ (closed raw))
added_is (calls.InnerList items params false) = refl

added_pair_is : (m : KeyRef × MemberCalls) → added_text_of_pair (text_of m.0, member_calls m.1)
    ≡ added (λ m. is_written m.1) (λ m. dictionary_member_text (entry_of_calls m)) m
added_pair_is (key, calls.Item i) = refl
added_pair_is (key, calls.InnerList items params true) =
    let raw : List RawItem = map item_of_calls items.items in
    let begun : List ℕ = (text_of key ++ codes "=(") ++ joined (codes " ") (map item_text raw) in
    sym (last_of _ _ _ (sym (named_inner _ raw []) ∙ append-nil (begun ++ codes ")")))
added_pair_is (key, calls.InnerList items params false) = refl

-- ---- the texts so far

each_is : {A B C : Type 0} (f : A → B) (g : B → C) (h : A → C) → ((x : A) → g (f x) ≡ h x) → (xs : List A)
    → map g (map f xs) ≡ map h xs
each_is f g h e [] = refl
each_is {C = C} f g h e (x ∷ xs) = ap (λ (y : C). y ∷ map g (map f xs)) (e x) ∙ ap (λ (l : List C). h x ∷ l) (each_is f g h e xs)

pub list_lacks : {Z T E : Type 0} (old : String Z) (ms : List MemberCalls) (r : Result T E)
    → OnErr r (LacksForTry old (tried_list ms)) → OnErr r (LacksForListCall old ms)
list_lacks old ms (Ok x) h = tt
list_lacks old ms (Err e) h =
    let text : MemberCalls → List ℕ = λ c. member_text (member_of_calls c) in
    let same : tried_list ms h.0 ≡ map text (filter is_written (take h.0 ms))
    ++ map (added is_written text) (take 1 (drop h.0 ms)) = ap (λ (raw : List RawMember). map member_text raw
    ++ map added_text (list_calls (take 1 (drop h.0 ms)))) (list_described_is (take h.0 ms)) ∙ ap (λ (l : List
    (List ℕ)). l ++ map added_text (list_calls (take 1 (drop h.0 ms)))) (map-map member_text member_of_calls
    (filter is_written (take h.0 ms))) ∙ ap (λ (l : List (List ℕ)). map text (filter is_written (take h.0 ms)) ++ l)
    (each_is member_calls added_text (added is_written text) added_is (take 1 (drop h.0 ms))) in
    (h.0, subst (λ (l : List (List ℕ)). LacksRoom old (joined (codes ", ") l)) same h.1)

pub dictionary_lacks : {Z T E : Type 0} (old : String Z) (ms : List (KeyRef × MemberCalls)) (r : Result T E)
    → OnErr r (LacksForTry old (tried_dictionary ms)) → OnErr r (LacksForEntryCall old ms)
dictionary_lacks old ms (Ok x) h = tt
dictionary_lacks old ms (Err e) h =
    let text : KeyRef × MemberCalls → List ℕ = λ m. dictionary_member_text (entry_of_calls m) in
    let test : KeyRef × MemberCalls → Bool = λ m. is_written m.1 in
    let same : tried_dictionary ms h.0 ≡ map text (filter test (take h.0 ms)) ++ map (added test text) (take 1
    (drop h.0 ms)) = ap (λ (raw : List (List ℕ × RawMember)). map dictionary_member_text raw ++ map added_text_of_pair
    (dictionary_calls (take 1 (drop h.0 ms)))) (dictionary_described_is (take h.0 ms)) ∙ ap (λ (l : List (List ℕ)). l
    ++ map added_text_of_pair (dictionary_calls (take 1 (drop h.0 ms)))) (map-map dictionary_member_text entry_of_calls
    (filter test (take h.0 ms))) ∙ ap (λ (l : List (List ℕ)). map text (filter test (take h.0 ms)) ++ l) (each_is
    (λ m. (text_of m.0, member_calls m.1)) added_text_of_pair (added test text) added_pair_is (take 1 (drop h.0 ms))) in
    (h.0, subst (λ (l : List (List ℕ)). LacksRoom old (joined (codes ", ") l)) same h.1)

-- ---- a version that has all values of the calls has the values of the described field

module _ (version : Version) where
  pub list_fits : (ms : List MemberCalls) → Fits version list_field (map member_of_calls ms)
      → Fits version list_field (described_list ms)
  list_fits [] h = tt
  list_fits (calls.Item i ∷ ms) h =
      let p = fit_split version (member_values (member_of_calls (calls.Item i)))
      (flat_map member_values (map member_of_calls ms)) h in
      fit_append version (member_values (member_of_calls (calls.Item i)))
      (flat_map member_values (described_list ms)) p.0 (list_fits ms p.1)
  list_fits (calls.InnerList items params true ∷ ms) h = list_fits ms (fit_split version (member_values
      (member_of_calls (calls.InnerList items params true))) (flat_map member_values (map member_of_calls ms)) h).1
  list_fits (calls.InnerList items params false ∷ ms) h =
      let p = fit_split version (member_values (member_of_calls (calls.InnerList items params false)))
      (flat_map member_values (map member_of_calls ms)) h in
      fit_append version (member_values (member_of_calls (calls.InnerList items params false)))
      (flat_map member_values (described_list ms)) p.0 (list_fits ms p.1)

  pub dictionary_fits : (ms : List (KeyRef × MemberCalls)) → Fits version dictionary_field (map entry_of_calls ms)
      → Fits version dictionary_field (described_dictionary ms)
  dictionary_fits [] h = tt
  dictionary_fits ((key, calls.Item i) ∷ ms) h =
      let p = fit_split version (member_values (member_of_calls (calls.Item i)))
      (flat_map (λ m. member_values m.1) (map entry_of_calls ms)) h in
      fit_append version (member_values (member_of_calls (calls.Item i)))
      (flat_map (λ m. member_values m.1) (described_dictionary ms)) p.0 (dictionary_fits ms p.1)
  dictionary_fits ((key, calls.InnerList items params true) ∷ ms) h = dictionary_fits ms
      (fit_split version (member_values (member_of_calls (calls.InnerList items params true)))
      (flat_map (λ m. member_values m.1) (map entry_of_calls ms)) h).1
  dictionary_fits ((key, calls.InnerList items params false) ∷ ms) h =
      let p = fit_split version (member_values (member_of_calls (calls.InnerList items params false)))
      (flat_map (λ m. member_values m.1) (map entry_of_calls ms)) h in
      fit_append version (member_values (member_of_calls (calls.InnerList items params false)))
      (flat_map (λ m. member_values m.1) (described_dictionary ms)) p.0 (dictionary_fits ms p.1)
