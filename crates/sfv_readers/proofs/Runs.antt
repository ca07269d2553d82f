-- Runs of a visitor, part by part.
use Rattle.std.proofs.Common.{◌≡◌, ℕ, Option, Some, None, List, [], ◌∷◌, ◌++◌, refl, subst, append_assoc, append-nil}
use Rattle.std.{proofs.Common.{map, flat_map, MatchOption}, specs.List.FoldsTo, proofs.lemmas.Option.same_Some}
use Rattle.sfv_spec.specs.Events.{TreeEvent, begins_item, bare_item, parameter, parameters_end, parameters_events}
use Rattle.sfv_spec.specs.{Events.inner_item_events, Ordered.ordered_item, Values.{BareValue, RawParameters, RawItem}}
use Rattle.sfv.proofs.visits.Taken.{split_run}
use Rattle.sfv_readers.specs.Words.{Head, of_item, of_inner_list, member_of, head_of, parameters_of, raw_item, put}
use Rattle.sfv_readers.proofs.Puts.{put_all, all_put}

-- The items of an inner list, if each part leads to the state with one part more.
module _ {S : Type 0} (takes : S → TreeEvent → S → Type 0) (Known : S → List RawItem → Type 0)
    (begins : (s after : S) (xs : List RawItem) → Known s xs → takes s begins_item after → Known after xs)
    (bare : (s after : S) (xs : List RawItem) (b : BareValue) → Known s xs → takes s (bare_item b) after
    → Known after (xs ++ raw_item b [] ∷ []))
    (entered : (s after : S) (xs : List RawItem) (b : BareValue) (ps : RawParameters) (k : List ℕ) (v : BareValue)
    → Known s (xs ++ raw_item b ps ∷ []) → takes s (parameter k v) after → Known after (xs ++ raw_item b (put ps k v) ∷ []))
    (ends : (s after : S) (xs : List RawItem) → Known s xs → takes s parameters_end after → Known after xs) where
  parameters_known : (ps done : RawParameters) (xs : List RawItem) (b : BareValue) (s to : S)
      → Known s (xs ++ raw_item b done ∷ []) → FoldsTo takes s (parameters_events ps) to
      → Known to (xs ++ raw_item b (put_all done ps) ∷ [])
  parameters_known [] done xs b s to h run =
      subst (λ s. Known s (xs ++ raw_item b done ∷ [])) run.2 (ends s run.0 (xs ++ raw_item b done ∷ []) h run.1)
  parameters_known (p ∷ ps) done xs b s to h run =
      parameters_known ps (put done p.0 p.1) xs b run.0 to (entered s run.0 xs b done p.0 p.1 h run.1) run.2

  pub items_known : (items done : List RawItem) (s to : S) → Known s done
      → FoldsTo takes s (flat_map inner_item_events items) to → Known to (done ++ map ordered_item items)
  items_known [] done s to h run = subst (λ s. Known s (done ++ [])) run (rw (append-nil done) h)
  items_known (x ∷ items) done s to h run =
      let begun = begins s run.0 done h run.1 in
      let headed = bare run.0 run.2.0 done x.bare begun run.2.1 in
      let parts = split_run takes (parameters_events x.parameters) (flat_map inner_item_events items) run.2.0 to run.2.2 in
      let whole = parameters_known x.parameters [] done x.bare run.2.0 parts.0 headed parts.1 in
      let ordered : Known parts.0 (done ++ ordered_item x ∷ []) =
      subst (λ (ps : RawParameters). Known parts.0 (done ++ raw_item x.bare ps ∷ [])) (all_put x.parameters) whole in
      subst (Known to) (append_assoc done (ordered_item x ∷ []) (map ordered_item items))
      (items_known items (done ++ ordered_item x ∷ []) parts.0 to ordered parts.2)

pub head_there : (head : Head) (ps : RawParameters) → head_of (member_of head ps) ≡ head
head_there (of_item b) ps = refl
head_there (of_inner_list xs) ps = refl

pub parameters_there : (head : Head) (ps : RawParameters) → parameters_of (member_of head ps) ≡ ps
parameters_there (of_item b) ps = refl
parameters_there (of_inner_list xs) ps = refl

-- a match in a known case
pub on_none : {A : Type 0} (P : Type 0) (Q : A → Type 0) (o : Option A) → o ≡ None → MatchOption o P Q → P
on_none P Q None e h = h
on_none P Q (Some x) e h = absurd (cc)

pub on_some : {A : Type 0} (P : Type 0) (Q : A → Type 0) (o : Option A) (x : A) → o ≡ Some x → MatchOption o P Q → Q x
on_some P Q None x e h = absurd (cc)
on_some P Q (Some y) x e h = subst Q (same_Some y x e) h
