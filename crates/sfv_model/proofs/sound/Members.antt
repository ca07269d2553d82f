-- What is read as an inner list, as a member of a list or of a dictionary, is one.
use Rattle.std.proofs.Common.{◌≡◌, ℕ, ◌≤◌, true, List, [], ◌∷◌, ◌++◌, length, Some, None, refl, sym, ap, ◌∙◌}
use Rattle.std.proofs.Common.{append_assoc, arith, inl, inr, codes, flat_map}
use Rattle.sfv_spec.specs.Events.{TreeEvent, entry, keyed_entry, begins_item, begins_inner_list, bare_item}
use Rattle.sfv_spec.specs.Events.{inner_list_end, parameters_events, item_events, member_events, inner_item_events}
use Rattle.sfv_spec.specs.Events.{entry_events, keyed_events}
use Rattle.sfv_spec.specs.Grammar.{Spaces, IsKeyText, IsParametersText, IsItemText, IsMemberText, IsMemberValueText}
use Rattle.sfv_spec.specs.{Grammar.IsDictionaryMemberText, Texts.{Exactly, RunOf, ◌⨾◌}}
use Rattle.sfv_spec.specs.{Values.{boolean, RawParameters, RawItem, RawMember, item}, declared.version.Version.Version}
use Rattle.sfv_spec.proofs.Marks.{space, equals_sign, left_parenthesis, right_parenthesis, is_space, true_with}
use Rattle.sfv_spec.proofs.Marks.{IsParameterText, SomeSpaces}
use Rattle.sfv_model.specs.{Items.key_at, Judgements.Sound}
use Rattle.sfv_model.specs.Members.{inner_item_at, next_item_at, inner_items_at, inner_of, closed_events, inner_at}
use Rattle.sfv_model.specs.Members.{member_at, entry_at, member_value_at, keyed_at}
use Rattle.sfv_model.proofs.sound.Combinators.{Sound-give, Sound-fail, Sound-led, Sound-byte, Sound-ahead, Sound-bind}
use Rattle.sfv_model.proofs.sound.Combinators.{Sound-map, Sound-within, Sound-here, Sound-span, Reads, Somewhere, Goes}
use Rattle.sfv_model.proofs.sound.Combinators.{begins_after, begins_longer}
use Rattle.sfv_model.proofs.sound.Items.{Sound-key, ParametersGo, Sound-parameters, ItemGoes, Sound-item}
use Rattle.sfv_model.proofs.sound.{Many.{Step, Consumes, Consumes-from}, Steps.{StepGoes, Sound-steps}}
use Rattle.sfv_model.proofs.texts.Joining.{joining_none, Joined, split_joined, in_turn}

-- ---- inner items

abbrev pub InnerItemGoes : Version → List ℕ → List TreeEvent → Type 0
InnerItemGoes version = Goes (IsItemText version) inner_item_events

inner_item_goes : (version : Version) (u : List ℕ) (es : List TreeEvent) → ItemGoes version u es
    → InnerItemGoes version u (begins_item ∷ es)
inner_item_goes version u es g = (g.0, g.1, begins_after (begins_item ∷ []) (item_events g.0) es g.2)

pub Sound-inner_item : (version : Version) → Reads (inner_item_at version) (IsItemText version) (InnerItemGoes version)
unfolding inner_item_at
Sound-inner_item version = Sound-led _ (Sound-here (λ u. u) (λ es. begins_item ∷ es) (InnerItemGoes version)
    (Sound-item version) (λ v t h. h) (inner_item_goes version))

-- the closing parenthesis, and one more item
abbrev pub IsClosed : List ℕ → Type 0
IsClosed = Spaces ⨾ Exactly (codes ")")

abbrev pub IsNextItem : Version → RawItem → List ℕ → Type 0
IsNextItem version i = SomeSpaces ⨾ IsItemText version i

pub closed : (spaces : List ℕ) → RunOf is_space spaces → IsClosed (spaces ++ right_parenthesis ∷ [])
closed spaces each = in_turn spaces (right_parenthesis ∷ []) each refl

pub next_item : (version : Version) (spaces t : List ℕ) (i : RawItem) → RunOf is_space spaces → IsItemText version i t
    → IsNextItem version i (space ∷ (spaces ++ t))
next_item version spaces t i each h = in_turn (space ∷ spaces) t (in_turn (space ∷ []) spaces refl each) h

abbrev pub NextItemGoes : Version → List ℕ → List TreeEvent → Type 0
NextItemGoes version = StepGoes (IsNextItem version) IsClosed inner_item_events

at_bracket : (version : Version) → NextItemGoes version (right_parenthesis ∷ []) []
at_bracket version = (None, closed [] refl, ([], refl))

pub Sound-next_item : (version : Version) → Reads (next_item_at version) (Step (IsNextItem version) IsClosed)
    (NextItemGoes version)
unfolding next_item_at
Sound-next_item version = Sound-byte _ (Sound-span _ _ _ _ _ (λ spaces each. Sound-byte _ (Sound-give _ _ _ _
    (closed (space ∷ spaces) each)) (Sound-map (λ i. Some i) (Sound-here (λ u. space ∷ (spaces ++ u)) (λ es. es)
    (NextItemGoes version) (Sound-inner_item version) (λ i t h. next_item version spaces t i each h) (λ u es g. (
      Some g.0,
      next_item version spaces u g.0 each g.1,
      g.2,
    )))))) (Sound-byte _ (Sound-give _ _ _ _ (closed [] refl))
    (Sound-ahead _ _ _ _ _ _ (Sound-fail _ _ _ _ (right_parenthesis ∷ []) (at_bracket version)) (Sound-fail _ _ _ _
    (right_parenthesis ∷ []) (at_bracket version))))

next_item_takes : (version : Version) (i : RawItem) (t : List ℕ) → IsNextItem version i t → 1 ≤ length t
next_item_takes version i t h = rw (h.text, h.first.text, h.first.first) (omega arith)

pub Consumes-next_item : (version : Version) → Consumes (next_item_at version)
Consumes-next_item version = Consumes-from _ _ _ _ _ (Sound-next_item _) (next_item_takes _)

-- what stands after the opening parenthesis, with the closing one
abbrev pub IsItems : Version → List RawItem → List ℕ → Type 0
IsItems version [] = IsClosed
IsItems version (i ∷ is) = Spaces ⨾ IsItemText version i ⨾ Joined (IsNextItem version) IsClosed is

abbrev pub ItemsGo : Version → List ℕ → List TreeEvent → Type 0
ItemsGo version = Goes (IsItems version) (λ is. flat_map inner_item_events is)

pub items_with : (version : Version) (spaces s t : List ℕ) (i : RawItem) (is : List RawItem) → RunOf is_space spaces
    → IsItemText version i s → Joined (IsNextItem version) IsClosed is t → IsItems version (i ∷ is) (spaces ++ (s ++ t))
items_with version spaces s t i is each h k = in_turn spaces (s ++ t) each (in_turn s t h k)

pub bracket : IsClosed (right_parenthesis ∷ [])
bracket = closed [] refl

pub Sound-items : (version : Version) → Reads (inner_items_at version) (IsItems version) (ItemsGo version)
unfolding inner_items_at
Sound-items version = Sound-ahead _ _ _ _ _ _ (Sound-span _ _ _ _ _ (λ spaces each. Sound-byte _
    (Sound-give _ _ _ _ (closed spaces each)) (Sound-bind (IsItemText version) (inner_item_at version) _ _ _ _
    (Sound-within (λ u. spaces ++ u) (λ es. es) (ItemsGo version) (Sound-inner_item version) (λ v t h. h)
    (λ u es g. (
      right_parenthesis ∷ [],
      (
        g.0 ∷ [],
        items_with version spaces u (right_parenthesis ∷ []) g.0 [] each g.1 bracket,
        begins_longer (inner_item_events g.0) es [] g.2,
      ),
    )))
    (λ s i h. Sound-led _ (Sound-map (λ is. i ∷ is) (Sound-here (λ u. spaces ++ (s ++ u))
    (λ es. inner_item_events i ++ es) (ItemsGo version) (Sound-steps (IsNextItem version) IsClosed inner_item_events
    (right_parenthesis ∷ []) bracket (next_item_at version) (Sound-next_item version)) (λ is t k. items_with version
    spaces s t i is each h k)
    (λ u es g. (
      i ∷ g.0,
      items_with version spaces s u i g.0 each h g.1,
      begins_after (inner_item_events i) (flat_map inner_item_events g.0) es g.2,
    ))))))))
    (Sound-fail _ _ _ _ (right_parenthesis ∷ []) ([], bracket, ([], refl)))

-- ---- inner lists

-- in the form of the grammar
pub inner_text : (version : Version) (is : List RawItem) (ps : RawParameters) (s t : List ℕ) → IsItems version is s
    → IsParametersText version ps t → IsMemberText version (inner_of is ps) (left_parenthesis ∷ (s ++ t))
inner_text version [] ps s t h k = in_turn (left_parenthesis ∷ []) (s ++ t) refl (record {
  front = h.front;
  back = right_parenthesis ∷ t;
  text = simp (h.text, h.second, append_assoc);
  first = h.first;
  second = in_turn [] (right_parenthesis ∷ t) refl (in_turn (right_parenthesis ∷ []) t refl k);
})
inner_text version (i ∷ is) ps s t h k =
    let m = split_joined _ _ _ _ h.second.second in
    let z = m.second in
    let whole : s ++ t ≡ h.front ++ (((h.second.front ++ m.front) ++ z.front) ++ (right_parenthesis ∷ t)) = ap
    (λ (l : List ℕ). l ++ t) (h.text ∙ ap (λ (l : List ℕ). h.front ++ l) (h.second.text ∙ ap
    (λ (l : List ℕ). h.second.front ++ l) (m.text ∙ ap (λ (l : List ℕ). m.front ++ l) (z.text ∙ ap
    (λ (l : List ℕ). z.front ++ l) z.second)))) ∙ simp append_assoc in
    in_turn _ _ refl (record {
      front = h.front;
      back = ((h.second.front ++ m.front) ++ z.front) ++ (right_parenthesis ∷ t);
      text = whole;
      first = h.first;
      second = in_turn _ _ (in_turn _ _ (in_turn _ _ h.second.first m.first) z.first) (in_turn _ _ refl k);
    })

abbrev pub MemberGoes : Version → List ℕ → List TreeEvent → Type 0
MemberGoes version = Goes (IsMemberText version) member_events

inner_all : (is : List RawItem) (ps : RawParameters)
    → member_events (inner_of is ps) ≡ begins_inner_list ∷ (closed_events is ++ parameters_events ps)
inner_all is ps = ap (λ (l : List TreeEvent). begins_inner_list ∷ l)
    (sym (append_assoc (flat_map inner_item_events is) (inner_list_end ∷ []) (parameters_events ps)))

-- all items, and a beginning of the events of the parameters
after_items : (version : Version) (is : List RawItem) (s : List ℕ) → IsItems version is s
    → (u : List ℕ) (es : List TreeEvent) → ParametersGo version u es
    → MemberGoes version (left_parenthesis ∷ (s ++ u)) (begins_inner_list ∷ (closed_events is ++ es))
after_items version is s h u es g = (
  inner_of is g.0,
  inner_text version is g.0 s u h g.1,
  rw (inner_all is g.0) (begins_after (begins_inner_list ∷ []) (closed_events is ++ parameters_events g.0)
      (closed_events is ++ es) (begins_after (closed_events is) (parameters_events g.0) es g.2)),
)

items_go : (version : Version) (u : List ℕ) (es : List TreeEvent) → ItemsGo version u es
    → MemberGoes version (left_parenthesis ∷ (u ++ [])) (begins_inner_list ∷ es)
items_go version u es g = (
  inner_of g.0 [],
  inner_text _ _ _ _ _ g.1 (joining_none _),
  rw (inner_all g.0 []) (begins_after (begins_inner_list ∷ []) _ _ (begins_longer _ _ (parameters_events [])
      (begins_longer _ _ (inner_list_end ∷ []) g.2))),
)

Sound-inner : (version : Version) → Sound (inner_at version) (λ m s. IsMemberText version m (left_parenthesis ∷ s))
    (λ s es. MemberGoes version (left_parenthesis ∷ s) (begins_inner_list ∷ es))
    (λ es. Somewhere (MemberGoes version) (begins_inner_list ∷ es))
unfolding inner_at
Sound-inner version = Sound-bind _ _ _ _ _ _ (Sound-within (λ u. left_parenthesis ∷ u) (λ es. begins_inner_list ∷ es)
    (MemberGoes version) (Sound-items _) (λ v t h. h) (λ u es g. ([], items_go _ _ _ g))) (λ s is h. Sound-led _
    (Sound-map _ (Sound-here (λ u. left_parenthesis ∷ (s ++ u)) (λ es. begins_inner_list ∷ (closed_events is ++ es))
    (MemberGoes version) (Sound-parameters _) (λ ps t k. inner_text _ _ _ _ _ h k) (after_items _ _ _ h))))

-- ---- members

item_goes : (version : Version) (u : List ℕ) (es : List TreeEvent) → ItemGoes version u es
    → MemberGoes version u (begins_item ∷ es)
item_goes version u es g = (item g.0, g.1, begins_after (begins_item ∷ []) (item_events g.0) es g.2)

pub Sound-member : (version : Version) → Reads (member_at version) (IsMemberText version) (MemberGoes version)
unfolding member_at
Sound-member version = Sound-byte _ (Sound-led _ (Sound-inner _)) (Sound-led _ (Sound-map _ (Sound-here (λ u. u)
    (λ es. begins_item ∷ es) (MemberGoes version) (Sound-item _) (λ v t h. h) (item_goes _))))

abbrev pub EntryGoes : Version → List ℕ → List TreeEvent → Type 0
EntryGoes version = Goes (IsMemberText version) entry_events

pub Sound-entry : (version : Version) → Reads (entry_at version) (IsMemberText version) (EntryGoes version)
unfolding entry_at
Sound-entry version = Sound-led _ (Sound-here (λ u. u) (λ es. entry ∷ es) (EntryGoes version) (Sound-member version)
    (λ v t h. h) (λ u es g. (g.0, g.1, begins_after (entry ∷ []) (member_events g.0) es g.2)))

-- ---- members of dictionaries

abbrev pub KeyedGoes : Version → List ℕ → List TreeEvent → Type 0
KeyedGoes version = Goes (IsDictionaryMemberText version) keyed_events

abbrev pub ValueGoes : Version → List ℕ → List TreeEvent → Type 0
ValueGoes version = Goes (IsMemberValueText version) member_events

pub given : (version : Version) (m : RawMember) (t : List ℕ) → IsMemberText version m t
    → IsMemberValueText version m (equals_sign ∷ t)
given version m t h = inl (in_turn (equals_sign ∷ []) t refl h)

left_out : (version : Version) (ps : RawParameters) (t : List ℕ) → IsParametersText version ps t
    → IsMemberValueText version (true_with ps) t
left_out version ps t h = inr (ps, refl, h)

pub Sound-member_value : (version : Version) → Reads (member_value_at version) (IsMemberValueText version)
    (ValueGoes version)
unfolding member_value_at
Sound-member_value version = Sound-byte _ (Sound-here (λ u. equals_sign ∷ u) (λ es. es) (ValueGoes version)
    (Sound-member version) (given version) (λ u es g. (g.0, given version g.0 u g.1, g.2))) (Sound-led _ (Sound-map
    true_with (Sound-here (λ u. u) (λ es. begins_item ∷ bare_item (boolean true) ∷ es) (ValueGoes version)
    (Sound-parameters version) (left_out version)
    (λ u es g. (
      true_with g.0,
      left_out version g.0 u g.1,
      begins_after (begins_item ∷ bare_item (boolean true) ∷ []) (parameters_events g.0) es g.2,
    )))))

pub keyed : (version : Version) (key k t : List ℕ) (m : RawMember) → IsKeyText key k → IsMemberValueText version m t
    → IsDictionaryMemberText version (key, m) (k ++ t)
keyed version key k t m h g = in_turn k t h g

pub Sound-keyed : (version : Version) → Reads (keyed_at version) (IsDictionaryMemberText version) (KeyedGoes version)
unfolding keyed_at
Sound-keyed version = Sound-bind IsKeyText key_at _ _ _ _
    (Sound-within (λ u. u) (λ es. es) (KeyedGoes version) Sound-key (λ v t h. h)
    (λ u es g. (
      [],
      (
        (g.0, true_with []),
        keyed version g.0 u [] (true_with []) g.1 (left_out version [] [] (joining_none (IsParameterText version))),
        (keyed_events (g.0, true_with []), rw g.2 refl),
      ),
    )))
    (λ k key h. Sound-led _ (Sound-map (λ m. (key, m)) (Sound-here (λ u. k ++ u) (λ es. keyed_entry key ∷ es)
    (KeyedGoes version) (Sound-member_value version) (λ m t g. keyed version key k t m h g)
    (λ u es g. (
      (key, g.0),
      keyed version key k u g.0 h g.1,
      begins_after (keyed_entry key ∷ []) (member_events g.0) es g.2,
    )))))
