-- The builder of a list: after all events of a tree it has the ordered members after those that it was given.
use Rattle.std.proofs.Common.{◌≡◌, ℕ, List, [], ◌∷◌, ◌++◌, map, refl, sym, ap, ◌∙◌, append_assoc, Option, ◌⊎◌, inl, inr}
use Rattle.std.{proofs.Common.{subst, Some, None, fold, append-nil}, specs.List.FoldsTo}
use Rattle.std.specs.declared.{alloc.Global.Global, vec.Vec.Vec}
use Rattle.std.proofs.lemmas.List.{Elements.{All-nil, All-cons, All-append, All-same}, Sums.fold-append}
use Rattle.sfv_spec.proofs.Runs.{runs_fold}
use Rattle.sfv_tree.specs.Builders.{MemberState, begun, item_head, item_parameters, inner_items, inner_head}
use Rattle.sfv_tree.specs.Builders.{inner_parameters, list_parameters, ended, member_step, settle, list_step, complete}
use Rattle.sfv_tree.specs.{Builders.{list_state, ListAddsUnder, ListAdds}, Seeds.{MemberHasSeed, ListHasSeed}}
use Rattle.sfv.specs.Field.{TreeEvent, member_events, events, IsFieldText, ordered, ordered_member, IsParsedAs}
use Rattle.sfv.specs.{Field.{RawMember, list_tree, list_field, Version}, Types.{ListEntry, ListBuilder, HashSeed}}
use Rattle.sfv.proofs.Relations.{Answers}
use Rattle.sfv.proofs.built.{Members.{IsOpen, member_built}, Seeded.{map_none, runs_grow, runs_weaker}}

-- what the builder does with an event, and with the end
abbrev Places : ListBuilder → TreeEvent → ListBuilder → Type 0
Places s e after = list_state after ≡ list_step (list_state s) e

abbrev Steps : ListBuilder → TreeEvent → ListBuilder → Type 0
Steps s e after = (list_state after ≡ list_step (list_state s) e) × ListAdds s after

abbrev Ends : ListBuilder → Vec ListEntry Global → Type 0
Ends s list = list ≡ s.list

-- the state of a list's builder
abbrev pub ListState : Type 0
ListState = List RawMember × Option MemberState

-- no member is current
abbrev pub between : List RawMember → ListState
between ms = (ms, None)

within_each : (ms : List RawMember) (p : MemberState) (e : TreeEvent) → IsOpen p
    → list_step (settle ms p) e ≡ settle ms (member_step p e)
within_each ms begun e h = refl
within_each ms item_head e h = refl
within_each ms (item_parameters i) e h = refl
within_each ms (inner_items l) e h = refl
within_each ms (inner_head l) e h = refl
within_each ms (inner_parameters l i) e h = refl
within_each ms (list_parameters l) e h = refl
within_each ms (ended m) e h = absurd h

members_built : (ms raw : List RawMember) → fold list_step (between ms) (events list_field raw)
    ≡ between (ms ++ ordered list_field raw)
members_built ms [] = ap between (sym (append-nil ms))
members_built ms (m ∷ raw) = fold-append list_step (ms, Some begun) (member_events m)
    (events list_field raw) ∙ ap (λ (p : ListState). fold list_step p (events list_field raw))
    (member_built list_step (settle ms) (within_each ms) m) ∙ members_built (ms ++ ordered_member m ∷ []) raw
    ∙ ap between (append_assoc ms (ordered_member m ∷ []) (map ordered_member raw))

-- after all events the members stand last, each of them ordered
pub list_built : (ms raw : List RawMember) (s last : ListBuilder) → list_state s ≡ between ms
    → FoldsTo Steps s (events list_field raw) last → list_state last ≡ between (ms ++ ordered list_field raw)
list_built ms raw s last here run = runs_fold _ _ _ _ _ (runs_weaker _ _ (λ s e t k. k.0) _ _ _ run)
    ∙ ap (λ (p : ListState). fold list_step p (events list_field raw)) here ∙ members_built _ _

-- what was built after the members of earlier lines is those, and then the ordered members of the only tree
pub built_list_after : (version : Version) (t : List ℕ) (held : List RawMember) (from : ListBuilder)
    (list : Vec ListEntry Global) → list_state from ≡ between held
    → Answers Steps Ends version list_field t from list
    → (raw : List RawMember) × IsFieldText version list_field raw t
    × ((other : List RawMember) → IsFieldText version list_field other t → other ≡ raw)
    × (list_tree list.items ≡ held ++ ordered list_field raw)
built_list_after version t held from list here h =
    let whole : list_state h.holds.0 ≡ between (held ++ ordered list_field h.raw) =
    list_built held h.raw from h.holds.0 here h.holds.1 in
    (h.raw, h.accepted, h.only, ap (λ (l : Vec ListEntry Global). list_tree l.items) h.holds.2 ∙ ap complete whole)

-- what was built is the ordered list of the only tree
pub built_list : (version : Version) (t : List ℕ) (from : ListBuilder) (list : Vec ListEntry Global)
    → list_state from ≡ between [] → Answers Steps Ends version list_field t from list
    → IsParsedAs version list_field t (list_tree list.items)
built_list version t from list here h =
    let whole = built_list_after version t [] from list here h in
    record { raw = whole.0; accepted = whole.1; only = whole.2; holds = whole.3 }

-- members under this seed follow
abbrev pub GrowsUnder : HashSeed → List ListEntry → List ListEntry → Type 0
GrowsUnder seed xs ys = (ms : List ListEntry) × (ys ≡ xs ++ ms) × ListHasSeed seed ms

grows_none : (seed : HashSeed) (xs : List ListEntry) → GrowsUnder seed xs xs
grows_none seed xs = ([], sym (append-nil xs), All-nil (MemberHasSeed seed))

grows_more : (seed : HashSeed) (xs ys zs : List ListEntry) → GrowsUnder seed xs ys → GrowsUnder seed ys zs
    → GrowsUnder seed xs zs
grows_more seed xs ys zs a b = (
  a.0 ++ b.0,
  b.1 ∙ ap (λ (l : List ListEntry). l ++ b.0) a.1 ∙ append_assoc xs a.0 b.0,
  All-append (MemberHasSeed seed) a.0 b.0 a.2 b.2,
)

one_step : (s : ListBuilder) (e : TreeEvent) (after : ListBuilder) → Steps s e after → (seed : HashSeed)
    → ListAddsUnder seed s → ListAddsUnder seed after × GrowsUnder seed s.list.items after.list.items
one_step s e after h seed start = let k = h.1 seed start in (k.0, on k.1)
  where
    on : (after.list.items ≡ s.list.items) ⊎ ((m : ListEntry) × (after.list.items ≡ s.list.items ++ m ∷ [])
        × MemberHasSeed seed m) → GrowsUnder seed s.list.items after.list.items
    on (inl same) = subst (λ (l : List ListEntry). GrowsUnder seed s.list.items l) (sym same) (grows_none seed s.list.items)
    on (inr k) = (k.0 ∷ [], k.1, All-cons (MemberHasSeed seed) k.0 [] k.2 (All-nil (MemberHasSeed seed)))

-- the members that the builder was given, and then members under its seed
pub list_adds : (version : Version) (t : List ℕ) (from : ListBuilder) (list : Vec ListEntry Global) (seed : HashSeed)
    → ListAddsUnder seed from → Answers Steps Ends version list_field t from list
    → GrowsUnder seed from.list.items list.items
list_adds version t from list seed start h =
    rw h.holds.2 (runs_grow _ _ _ _ grows_none grows_more one_step _ _ h.holds.0 h.holds.1 _ start)

-- if the members that were there hash under the seed, all do
pub list_seeded : (version : Version) (t : List ℕ) (from : ListBuilder) (list : Vec ListEntry Global) (seed : HashSeed)
    → ListHasSeed seed from.list.items → ListAddsUnder seed from → Answers Steps Ends version list_field t from list
    → ListHasSeed seed list.items
list_seeded version t from list seed held start h =
    let more = list_adds version t from list seed start h in
    subst (ListHasSeed seed) (sym more.1) (All-append (MemberHasSeed seed) from.list.items more.0 held more.2)

-- no member was there
pub no_list_held : (from : ListBuilder) (seed : HashSeed) → list_state from ≡ between [] → ListHasSeed seed from.list.items
no_list_held from seed here = All-same (MemberHasSeed seed) _ _ (map_none _ _ (ap complete here)) (All-nil _)
