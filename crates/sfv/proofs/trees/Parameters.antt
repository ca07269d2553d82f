-- The loop over parameters that are inserted into a map.
use Rattle.std.proofs.Common.{◌≡◌, ℕ, List, [], Some, Ok, Err, sym, ap, ◌∙◌, bytes_eq}
use Rattle.indexmap.specs.IndexMap.{insert_entry}
use Rattle.sfv_spec.{specs.Ordered.collapse, specs.Values.{BareValue, RawParameters}, proofs.Collapse.collapse-push}
use Rattle.sfv_model.specs.Items.{parameter_event, parameter_at, parameters_at}
use Rattle.sfv_model.proofs.{Types.{Version, ErrorKind}, sound.Items.Consumes-parameter, sound.Many.is_faulty}
use Rattle.sfv_tree.{specs.Trees.{OwnedBareItem, pairs_tree}, proofs.Entered.insert_entry-entered}
use Rattle.sfv.{specs.parser.Cursor.located, proofs.trees.Errors.{Any, FailsWith, fault_of}}
use Rattle.sfv.proofs.visits.Parameters.{VisitedParameters, visited_none, visited_more}

-- these parameters were read between start and now, and the map has each key once
pub record CollectedParameters (version : Version) (start now : List ℕ) (entries : List (List ℕ × OwnedBareItem))
    : Type 0 where
  pub visited : VisitedParameters Any version start now tt tt
  pub built : pairs_tree entries ≡ collapse visited.raw

pub collected_none : (version : Version) (start : List ℕ) (entries : List (List ℕ × OwnedBareItem)) → entries ≡ []
    → CollectedParameters version start start entries
unfolding collapse visited_none
collected_none version start entries empty = record {
  visited = visited_none Any version start tt;
  built = ap pairs_tree empty;
}

pub collected_more : (version : Version) (start now r k : List ℕ) (v : BareValue)
    (before after : List (List ℕ × OwnedBareItem)) → CollectedParameters version start now before
    → parameter_at version now ≡ Ok (Some (k, v), r)
    → pairs_tree after ≡ insert_entry bytes_eq (pairs_tree before) k v → CollectedParameters version start r after
unfolding visited_more
collected_more version start now r k v before after h read inserted = record {
  visited = visited_more Any version start now r k v tt tt tt h.visited read tt;
  built = inserted ∙ ap (λ (ps : RawParameters). insert_entry bytes_eq ps k v) h.built
      ∙ insert_entry-entered (collapse h.visited.raw) k v ∙ sym (collapse-push h.visited.raw k v);
}

-- a parameter fails, and the loop with it
pub collected_fails : (version : Version) (start now : List ℕ) (entries : List (List ℕ × OwnedBareItem))
    → CollectedParameters version start now entries
    → FailsWith (parameter_at version now) (parameters_at version start)
unfolding parameters_at
collected_fails version start now entries h k q fault =
    let f = fault_of (parameter_at version now) k q fault in
    ap located (is_faulty parameter_event (parameter_at version) (Consumes-parameter version) h.visited.raw now f.0
    (parameters_at version start) f.1 h.visited.so_far) ∙ ap (λ (p : ErrorKind × List ℕ). Err p) f.2
