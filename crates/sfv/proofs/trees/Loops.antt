-- Parts that are built one by one, each after a delimiter: the items of inner lists, and members.
use Rattle.std.proofs.Common.{◌≡◌, ℕ, true, false, List, [], ◌∷◌, ◌++◌, map, Ok, Err, sym, ap, subst, ◌∙◌, inr}
use Rattle.std.{specs.declared.alloc.Global.Global, proofs.lemmas.List.map-append}
use Rattle.sfv_spec.specs.{Ordered.ordered_item, Values.RawItem}
use Rattle.sfv_model.specs.Reader.{Answer, Reader}
use Rattle.sfv.specs.Types.{ErrorKind, Version, Error, HashSeed}
use Rattle.sfv.specs.declared.parser.{Parser.Parser, cursor.Cursor.Cursor}
use Rattle.sfv.specs.parser.{Cursor.{kept, version, input, rest, located, IsFaultOf}, Trees.FailsAs, Visits.Visits}
use Rattle.sfv.proofs.reads.{Delimiters.first_of, Errors.fault_bind}
use Rattle.sfv.proofs.trees.Errors.{Any, Never, FailsWith, any_run, fault_of, fails_in}
use Rattle.sfv.proofs.visits.Loops.{Loop, VisitedSoFar, Wants, IsFirst, begun, begun_at, more as visited_more, more_at}
use Rattle.sfv.proofs.visits.Loops.{ended, faulty, next_one}

-- What was read of a whole since the start, and what was built from it: `all` of what was read.
pub record BuiltSoFar {A W : Type 0} (l : Loop A) (all : List A → W) (start : Cursor) (total : Answer (List A))
    (now : Cursor) (built : W) : Type 0 where
  pub visited : VisitedSoFar Any l start total now tt tt
  pub is_built : built ≡ all visited.read.front

-- a cursor that has kept its parser has the same seed
pub seed_kept : (P : HashSeed → Type 0) (middle start : Cursor) → kept middle ≡ kept start → P middle.parser.seed
    → P start.parser.seed
seed_kept P middle start same h = subst (λ (k : Parser × Global). P k.0.seed) same h

-- a step that keeps a seed keeps that of the start
pub keeps_seed : {X : Type 0} (P : HashSeed → X → Type 0) (middle start : Cursor) (before after : X)
    → kept middle ≡ kept start → (P middle.parser.seed before → P middle.parser.seed after)
    → P start.parser.seed before → P start.parser.seed after
keeps_seed P middle start before after same h =
    seed_kept (λ s. P s before → P s after) middle start same h

module _ {A W : Type 0} (l : Loop A) (more : W → A → W) (middle after : Cursor) (before built : W) where
  -- a part was read, and what was built has grown by it
  abbrev pub BuildsOne : Type 0
  BuildsOne = (v : A) × (l.one (version middle) (rest middle) ≡ Ok (v, rest after)) × (built ≡ more before v)
      × (kept after ≡ kept middle)

  -- the same, visited
  unfoldable pub as_one : BuildsOne → Visits Any Never l.parts middle after tt tt (Ok tt) l.one
  as_one one = (one.0, one.1, any_run (l.parts one.0), one.3)

module _ {A W : Type 0} (l : Loop A) (all : List A → W) (more : W → A → W)
    (step : (front : List A) (v : A) → all (front ++ v ∷ []) ≡ more (all front) v) (start : Cursor)
    (total : Answer (List A)) where
  -- after the first
  pub built_first : (middle after : Cursor) (before built : W) → IsFirst Any Never l start total middle
      → before ≡ all [] → BuildsOne l more middle after before built → BuiltSoFar l all start total after built
  unfolding begun begun_at as_one
  built_first middle after before built first none one = record {
    visited = begun Any Never l start total middle after tt tt first (as_one l more middle after before built one);
    is_built = one.2 ∙ ap (λ w. more w one.0) none ∙ sym (step [] one.0);
  }

  -- after one more
  pub built_more : (now middle after : Cursor) (before built : W) → BuiltSoFar l all start total now before
      → Wants l true now middle → BuildsOne l more middle after before built → BuiltSoFar l all start total after built
  unfolding visited_more more_at as_one
  built_more now middle after before built h wanted one = record {
    visited = visited_more Any Never l start total now middle after tt tt tt h.visited wanted
        (as_one l more middle after before built one);
    is_built = one.2 ∙ ap (λ w. more w one.0) h.is_built ∙ sym (step h.visited.read.front one.0);
  }

  -- none follows
  pub built_all : (now after : Cursor) (built : W) → BuiltSoFar l all start total now built → Wants l false now after
      → (raw : List A) × (total ≡ Ok (raw, rest after)) × (built ≡ all raw) × (kept after ≡ kept start)
  unfolding ended
  built_all now after built h wanted =
      let whole = ended Any Never l start total now after tt tt h.visited wanted in
      (whole.0, whole.1, h.is_built, whole.3)

-- an error ends the loop
module _ {A : Type 0} (l : Loop A) (g : Version → Reader (List A)) (start : Cursor) where
  abbrev total : Answer (List A)
  total = g (version start) (rest start)

  pub first_fails : (middle : Cursor) (e : Error) → IsFirst Any Never l start total middle → FailsAs middle e l.one
      → FailsAs start e g
  unfolding first_of
  first_fails middle e first h = fails_in l.one g start middle e first.1
      (λ k q f. ap located first.0 ∙ fault_bind (l.one (version start)) _ (rest middle) k q f) h

  next_fails : (now : Cursor) → VisitedSoFar Any l start total now tt tt
      → FailsWith (l.next (version start) (rest now)) total
  next_fails now h k q fault =
      let f = fault_of (l.next (version start) (rest now)) k q fault in
      ap located (faulty l (version start) h.read.front (rest now) total f.0 h.read.so_far f.1)
      ∙ ap (λ (p : ErrorKind × List ℕ). Err p) f.2

  pub delimiter_fails : (now : Cursor) (e : Error) → VisitedSoFar Any l start total now tt tt
      → IsFaultOf (input now) e (l.delimiter (rest now)) → FailsAs start e g
  delimiter_fails now e h fault = fails_in (λ _. l.delimiter) g start now e h.same
      (λ k q f. next_fails now h k q (ap located (l.is_next (version start) (rest now))
      ∙ fault_bind l.delimiter _ (rest now) k q f)) (inr fault)

  pub one_fails : (now middle : Cursor) (e : Error) → VisitedSoFar Any l start total now tt tt → Wants l true now middle
      → FailsAs middle e l.one → FailsAs start e g
  one_fails now middle e h wanted one = fails_in l.one g start middle e (wanted.1 ∙ h.same)
      (λ k q f. next_fails now h k q (ap located (next_one l (version start) (rest now) (rest middle) wanted.0)
      ∙ fault_bind (l.one (version start)) _ (rest middle) k q f)) one

-- ---- the items of an inner list

abbrev pub items_with : List RawItem → RawItem → List RawItem
items_with is i = is ++ ordered_item i ∷ []

-- the value of items and one more is the value with one more
pub item_added : (front : List RawItem) (i : RawItem)
    → map ordered_item (front ++ i ∷ []) ≡ items_with (map ordered_item front) i
item_added front i = map-append ordered_item front (i ∷ [])
