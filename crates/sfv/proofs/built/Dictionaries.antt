-- The builder of a dictionary: after all events of a tree each key that it was given or that stands in the tree is
-- there once, at its first place, with its last member.
use Rattle.std.proofs.Common.{◌≡◌, ℕ, Bool, true, false, List, [], ◌∷◌, ◌++◌, map, refl, sym, ap, ◌∙◌, All}
use Rattle.std.proofs.Common.{append_assoc, ◌⊎◌, inl, inr, bytes_eq, fold, Option, Some, None, option_map, unwrap_or}
use Rattle.std.{proofs.Common.append-nil, specs.List.FoldsTo}
use Rattle.std.proofs.lemmas.List.{map-append, Elements.{All-nil, All-same}, Sums.fold-append}
use Rattle.indexmap.specs.IndexMap.{IndexMap, insert_entry}
use Rattle.sfv_spec.specs.Events.{TreeEvent, member_events, events}
use Rattle.sfv_spec.specs.{Grammar.IsFieldText, Ordered.{last_of, without, collapse, ordered, ordered_member}}
use Rattle.sfv_spec.specs.{Statements.IsParsedAs, Values.RawMember}
use Rattle.sfv_spec.proofs.{Collapse.{collapse-push, collapse-distinct}, Distinct.ordered_same}
use Rattle.sfv_spec.proofs.{Last.{over, last_of-over}, Marks.keys, Repeats.{no_repeats, IsOrdered}, Runs.runs_fold}
use Rattle.sfv_tree.specs.Builders.{MemberState, begun, item_head, item_parameters, inner_items, inner_head}
use Rattle.sfv_tree.specs.Builders.{inner_parameters, list_parameters, ended, member_step, DictionaryState, settle_pair}
use Rattle.sfv_tree.specs.Builders.{dictionary_step, complete, dictionary_state, DictionaryAddsUnder, DictionaryAdds}
use Rattle.sfv_tree.specs.{Seeds.{MemberHasSeed, DictionaryHasSeed}, Trees.dictionary_tree}
use Rattle.sfv_tree.proofs.{Entered.insert_entry-entered, Seeded.{AddsTo, adds_none, adds_more, adds_entered, adds_all}}
use Rattle.sfv.specs.Types.{dictionary_field, Version, ListEntry, DictionaryBuilder, HashSeed}
use Rattle.sfv.proofs.Relations.{Answers}
use Rattle.sfv.proofs.built.{Members.{IsOpen, member_built}, Seeded.{map_none, runs_grow, runs_stay, runs_weaker}}

-- values that are changed one by one are collapsed before or after
module _ {A B : Type 0} (f : A → B) where
  -- a value that is there, or another
  given_over : (o : Option A) (d : A) → unwrap_or (option_map f o) (f d) ≡ f (unwrap_or o d)
  given_over None d = refl
  given_over (Some x) d = refl

  without-over : (key : List ℕ) (ps : List (List ℕ × A)) → without key (over f ps) ≡ over f (without key ps)
  without-over key [] = refl
  without-over key ((k, v) ∷ ps) = go (without-over key ps) (bytes_eq key k) refl
    where
      go : without key (over f ps) ≡ over f (without key ps) → (b : Bool) → bytes_eq key k ≡ b
          → without key (over f ((k, v) ∷ ps)) ≡ over f (without key ((k, v) ∷ ps))
      go ih true e = simp e ih
      go ih false e = simp e (ap (λ (x : List (List ℕ × B)). (k, f v) ∷ x) ih)

  pub collapse-over : (ps : List (List ℕ × A)) → collapse (over f ps) ≡ over f (collapse ps)
  unfolding collapse
  collapse-over [] = refl
  collapse-over ((k, v) ∷ ps) = rw (
    last_of-over f k ps,
    given_over (last_of k ps) v,
    collapse-over ps,
    without-over k (collapse ps),
  ) refl

-- each key with its member, ordered
abbrev pub ordered_pairs : List (List ℕ × RawMember) → List (List ℕ × RawMember)
ordered_pairs ms = map (λ m. (m.0, ordered_member m.1)) ms

-- what the builder does with an event, and with the end
abbrev Places : DictionaryBuilder → TreeEvent → DictionaryBuilder → Type 0
Places s e after = dictionary_state after ≡ dictionary_step (dictionary_state s) e

abbrev Steps : DictionaryBuilder → TreeEvent → DictionaryBuilder → Type 0
Steps s e after = (dictionary_state after ≡ dictionary_step (dictionary_state s) e) × DictionaryAdds s after

abbrev Ends : DictionaryBuilder → IndexMap (List ℕ) ListEntry HashSeed → Type 0
Ends s dictionary = dictionary ≡ s.dictionary

-- no member is current
abbrev pub between_pairs : List (List ℕ × RawMember) → DictionaryState
between_pairs ms = (ms, None)

within_each : (ms : List (List ℕ × RawMember)) (key : List ℕ) (p : MemberState) (e : TreeEvent) → IsOpen p
    → dictionary_step (settle_pair ms key p) e ≡ settle_pair ms key (member_step p e)
within_each ms key begun e h = refl
within_each ms key item_head e h = refl
within_each ms key (item_parameters i) e h = refl
within_each ms key (inner_items l) e h = refl
within_each ms key (inner_head l) e h = refl
within_each ms key (inner_parameters l i) e h = refl
within_each ms key (list_parameters l) e h = refl
within_each ms key (ended m) e h = absurd h

pair_built : (ms : List (List ℕ × RawMember)) (key : List ℕ) (m : RawMember)
    → fold dictionary_step (collapse ms, Some (key, begun)) (member_events m)
    ≡ between_pairs (collapse (ms ++ (key, ordered_member m) ∷ []))
pair_built ms key m = member_built dictionary_step (settle_pair (collapse ms) key) (within_each _ _) m
    ∙ ap between_pairs (insert_entry-entered (collapse ms) key (ordered_member m) ∙ sym (collapse-push _ _ _))

pairs_built : (ms raw : List (List ℕ × RawMember)) → fold dictionary_step (between_pairs (collapse ms))
    (events dictionary_field raw) ≡ between_pairs (collapse (ms ++ ordered_pairs raw))
pairs_built ms [] = ap (λ (qs : List (List ℕ × RawMember)). between_pairs (collapse qs)) (sym (append-nil ms))
pairs_built ms (m ∷ raw) = fold-append dictionary_step (collapse ms, Some (m.0, begun)) (member_events m.1)
    (events dictionary_field raw) ∙ ap (λ (p : DictionaryState). fold dictionary_step p (events dictionary_field raw))
    (pair_built ms m.0 m.1) ∙ pairs_built (ms ++ (m.0, ordered_member m.1) ∷ []) raw ∙ ap (λ (qs : List (List ℕ
    × RawMember)). between_pairs (collapse qs)) (append_assoc ms ((m.0, ordered_member m.1) ∷ []) (ordered_pairs raw))

-- after all events the pairs are entered in turn, each member ordered
pub dictionary_built : (held raw : List (List ℕ × RawMember)) (s last : DictionaryBuilder)
    → no_repeats (keys held) ≡ true → dictionary_state s ≡ between_pairs held
    → FoldsTo Steps s (events dictionary_field raw) last
    → dictionary_state last ≡ between_pairs (collapse (held ++ ordered_pairs raw))
dictionary_built held raw s last distinct here run = runs_fold _ _ _ _ _ (runs_weaker _ _ (λ s e t k. k.0) _ _ _ run)
    ∙ ap (λ (p : DictionaryState). fold dictionary_step p (events dictionary_field raw))
    (here ∙ ap between_pairs (sym (collapse-distinct _ distinct))) ∙ pairs_built _ _

-- to a dictionary without repeats the field adds its pairs as if all stood in one field
joined : (held raw : List (List ℕ × RawMember)) → IsOrdered dictionary_field held
    → collapse (held ++ ordered_pairs raw) ≡ ordered dictionary_field (held ++ raw)
joined held raw h =
    let same : held ≡ ordered_pairs held = sym (ap ordered_pairs (sym (collapse-distinct held h.0))
    ∙ ordered_same dictionary_field held h) in
    ap (λ (qs : List (List ℕ × RawMember)). collapse (qs ++ ordered_pairs raw)) same ∙ ap collapse (sym (map-append
    (λ (m : List ℕ × RawMember). (m.0, ordered_member m.1)) held raw)) ∙ collapse-over ordered_member (held ++ raw)

-- what was built from the pairs of earlier lines: the pairs of the only tree are entered into them
pub built_dictionary_after : (version : Version) (t : List ℕ) (held : List (List ℕ
    × RawMember)) (from : DictionaryBuilder) (dictionary : IndexMap (List ℕ) ListEntry HashSeed)
    → no_repeats (keys held) ≡ true → dictionary_state from ≡ between_pairs held
    → Answers Steps Ends version dictionary_field t from dictionary
    → (raw : List (List ℕ × RawMember)) × IsFieldText version dictionary_field raw t
    × ((other : List (List ℕ × RawMember)) → IsFieldText version dictionary_field other t → other ≡ raw)
    × (dictionary_tree dictionary.entries ≡ collapse (held ++ ordered_pairs raw))
    × (IsOrdered dictionary_field held → dictionary_tree dictionary.entries
    ≡ ordered dictionary_field (held ++ raw))
built_dictionary_after version t held from dictionary distinct here h =
    let whole : dictionary_state h.holds.0 ≡ between_pairs (collapse (held ++ ordered_pairs h.raw)) =
    dictionary_built held h.raw from h.holds.0 distinct here h.holds.1 in
    let there : dictionary_tree dictionary.entries ≡ collapse (held ++ ordered_pairs h.raw) = ap
    (λ (d : IndexMap (List ℕ) ListEntry HashSeed). dictionary_tree d.entries) h.holds.2 ∙ ap complete whole in (
      h.raw,
      h.accepted,
      h.only,
      there,
      λ k. there ∙ joined held h.raw k,
    )

-- what was built is the ordered dictionary of the only tree
pub built_dictionary : (version : Version) (t : List ℕ) (from : DictionaryBuilder)
    (dictionary : IndexMap (List ℕ) ListEntry HashSeed) → dictionary_state from ≡ between_pairs []
    → Answers Steps Ends version dictionary_field t from dictionary
    → IsParsedAs version dictionary_field t (dictionary_tree dictionary.entries)
built_dictionary version t from dictionary here h =
    let whole = built_dictionary_after version t [] from dictionary refl here h in
    record { raw = whole.0; accepted = whole.1; only = whole.2; holds = whole.4 (refl, tt) }

one_step : (s : DictionaryBuilder) (e : TreeEvent) (after : DictionaryBuilder) → Steps s e after → (seed : HashSeed)
    → DictionaryAddsUnder seed s → DictionaryAddsUnder seed after
    × AddsTo (λ (p : List ℕ × ListEntry). MemberHasSeed seed p.1) s.dictionary.entries after.dictionary.entries
one_step s e after h seed start = let k = h.1 seed start in (k.0, on k.1)
  where
    has : List ℕ × ListEntry → Type 0
    has p = MemberHasSeed seed p.1

    on : (after.dictionary.entries ≡ s.dictionary.entries) ⊎ ((key : List ℕ) × (m : ListEntry)
        × (after.dictionary.entries ≡ insert_entry bytes_eq s.dictionary.entries key m) × MemberHasSeed seed m)
        → AddsTo has s.dictionary.entries after.dictionary.entries
    on (inl same) = rw same (adds_none has s.dictionary.entries)
    on (inr k) = rw k.2 (adds_entered bytes_eq (MemberHasSeed seed) s.dictionary.entries k.0 k.1 k.3)

-- each member was in the builder before the field, or hashes under its seed
pub dictionary_adds : (version : Version) (t : List ℕ) (from : DictionaryBuilder)
    (dictionary : IndexMap (List ℕ) ListEntry HashSeed) (seed : HashSeed) → DictionaryAddsUnder seed from
    → Answers Steps Ends version dictionary_field t from dictionary
    → AddsTo (λ (p : List ℕ × ListEntry). MemberHasSeed seed p.1) from.dictionary.entries dictionary.entries
dictionary_adds version t from dictionary seed start h =
    rw h.holds.2 (runs_grow _ _ _ _ (λ seed. adds_none (λ (p : List ℕ × ListEntry). MemberHasSeed seed p.1))
    (λ seed. adds_more (λ (p : List ℕ × ListEntry). MemberHasSeed seed p.1)) one_step _ _ h.holds.0 h.holds.1 _ start)

-- if the members that were there hash under the seed, all do
pub dictionary_seeded : (version : Version) (t : List ℕ) (from : DictionaryBuilder)
    (dictionary : IndexMap (List ℕ) ListEntry HashSeed) (seed : HashSeed)
    → All (λ (p : List ℕ × ListEntry). MemberHasSeed seed p.1) from.dictionary.entries → DictionaryAddsUnder seed from
    → Answers Steps Ends version dictionary_field t from dictionary → DictionaryHasSeed seed dictionary
dictionary_seeded version t from dictionary seed held start h =
    let last : DictionaryAddsUnder seed h.holds.0 = runs_stay _ _ (λ s e t k seed j. (k.1 seed j).0)
    _ _ h.holds.0 h.holds.1 _ start in (
      rw h.holds.2 last.0,
      adds_all (λ (p : List ℕ × ListEntry). MemberHasSeed seed p.1) _ _ held (dictionary_adds _ _ _ _ _ start h),
    )

-- no member was there
pub no_entry_held : (from : DictionaryBuilder) (seed : HashSeed) → dictionary_state from ≡ between_pairs []
    → All (λ (p : List ℕ × ListEntry). MemberHasSeed seed p.1) from.dictionary.entries
no_entry_held from seed here =
    All-same (λ (p : List ℕ × ListEntry). MemberHasSeed seed p.1) _ _ (map_none _ _ (ap complete here)) (All-nil _)
