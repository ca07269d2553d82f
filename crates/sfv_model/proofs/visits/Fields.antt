-- What a visitor is visited.
use Rattle.std.proofs.{Common.{ℕ, List, [], ◌++◌, Ok, Err, sym, inl, inr, append-nil}, lemmas.Bool.cases_Bool}
use Rattle.sfv_spec.specs.{Events.{TreeEvent, events}, Grammar.IsFieldText, Values.RawField}
use Rattle.sfv_spec.specs.declared.{field_kind.FieldKind.FieldKind, version.Version.Version}
use Rattle.sfv_spec.proofs.Valid.{accepted_is_value_lem}
use Rattle.sfv_model.specs.{Claims.VisitedBegins, Judgements.Reached, Reader.{Answer, visited}, Visits.BeginsEvents}
use Rattle.sfv_model.proofs.sound.{Combinators.Somewhere, Fields.{FieldGoes, Sound-field}}

begun_by : (version : Version) (kind : FieldKind) (es : List TreeEvent) → Somewhere (FieldGoes version kind) es
    → BeginsEvents kind es
begun_by version kind es g = record {
  raw = g.1.0;
  is_value = (accepted_is_value_lem version kind g.0 g.1.0 g.1.1).0;
  more = g.1.2.0;
  all = g.1.2.1;
}

visited_on : (version : Version) (kind : FieldKind) (t : List ℕ) (a : Answer (RawField kind))
    → Reached (IsFieldText version kind) (FieldGoes version kind) (Somewhere (FieldGoes version kind)) t a
    → Somewhere (FieldGoes version kind) (visited (events kind) a)
visited_on version kind t (Ok x) h = (h.0, (x.0, h.2, ([], sym (append-nil (events kind x.0)))))
visited_on version kind t (Err x) h = elim (cases_Bool x.exact) [
  | inl e ↦ let g = h.0 e in (g.front ++ g.more, g.holds)
  | inr e ↦ (h.1 e).0
]

-- what is visited, on a success or before a fault, begins some field's events
pub visited_begins : VisitedBegins
visited_begins version kind t = begun_by _ _ _ (visited_on _ _ _ _ ((Sound-field _ _).sound t))
