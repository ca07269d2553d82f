-- What a receiver receives through a visitor.
use Rattle.std.{proofs.Common.{◌≡◌, List, [], ◌∷◌, ap, sym, ◌∙◌}, specs.List.FoldsTo, specs.Prelude.⊤}
use Rattle.sfv_tree.specs.declared.visitor.Event.{Event}
use Rattle.sfv_c.specs.declared.reading.Passing.{Passing}

module _ {R : Type 0} (receives : R → Event → R → Type 0) where
  -- a step of the visitor
  abbrev pub Takes : Passing R → Event → Passing R → Type 0
  Takes s e t = ⊤ × ((t.receiver.ghost_name ≡ s.receiver.ghost_name) × receives s.receiver.now e t.receiver.now)

  pub passed : (es : List Event) (s last : Passing R) → FoldsTo Takes s es last
      → (last.receiver.ghost_name ≡ s.receiver.ghost_name) × FoldsTo receives s.receiver.now es last.receiver.now
  passed [] s last h = (ap (λ (x : Passing R). x.receiver.ghost_name) (sym h), ap (λ (x : Passing R). x.receiver.now) h)
  passed (e ∷ es) s last h =
      let i = passed es h.0 last h.2 in (i.0 ∙ h.1.1.0, (h.0.receiver.now, h.1.1.1, i.1))
