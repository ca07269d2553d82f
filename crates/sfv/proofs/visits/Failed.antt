-- The errors of a visitor, with the events as read.
use Rattle.std.proofs.Common.{◌≡◌, ℕ, List, [], ◌∷◌, ◌++◌, take, Option, Some, None, Result, Ok, Err, refl, sym, ap}
use Rattle.std.proofs.Common.{ap₂, subst, ◌∙◌, append_assoc, inl, inr, IfErr, MatchOption, map, append-nil}
use Rattle.std.specs.{List.FoldsTo, Prelude.⊤}
use Rattle.sfv_spec.specs.Events.{TreeEvent, events}
use Rattle.sfv_spec.specs.{Grammar.{IsFieldText, IsAccepted}, Reach.IsReach, Texts.◌⨾◌, Values.{RawField, IsFieldValue}}
use Rattle.sfv_model.specs.{Fields.whole_field_at, Reader.visited, Visits.VisitorFails}
use Rattle.sfv_model.proofs.Theorems.{read_is_accepted}
use Rattle.sfv_model.proofs.visits.{EventsBeforeReach.visited_reach, Fields.visited_begins}
use Rattle.sfv_base.specs.{Errors.index_of, declared.error.ParseError.TheVariants.{Syntax, Visitor}}
use Rattle.sfv_tree.specs.{Events.event_of, declared.visitor.Event.Event, declared.visitor.Visitor.Ghosts}
use Rattle.sfv.specs.Parsers.{version_of, input_of, AreReadFrom, Receives, FailsOn, at_event, at_end, IsVisitorErrorBy}
use Rattle.sfv.specs.{Types.{FieldKind, item_field, Version, ParseError}, declared.parser.Parser.Parser}
use Rattle.sfv.specs.parser.{AsRead.{TakesNext, FailsNext, VisitsFieldAsRead}, Visits.{VisitsField, ReturnsAfter}}
use Rattle.sfv.proofs.visits.Fields.{asked_of_item, text_before, whole_value, whole_read, whole_accepted, same_value}

module _ {S O E : Type 0} (v : Ghosts S O E) where
  -- the states of the visitor
  pub run_of : (version : Version) (es : List TreeEvent) (from to : S × List ℕ) → FoldsTo (TakesNext v version) from es to
      → FoldsTo v.takes from.0 es to.0
  run_of version [] from to h = ap (λ (p : S × List ℕ). p.0) h
  run_of version (e ∷ es) from to h =
      (h.0.0, subst (λ e. v.takes from.0 e h.0.0) h.1.1 h.1.2, run_of version es h.0 to h.2)

  -- the events up to a failure, as read
  pub record FailedRead (version : Version) (from : S × List ℕ) (es : List TreeEvent) (e : TreeEvent) (to : S) (error : E)
      : Type 0 where
    pub read : List Event
    pub last : Event
    pub before : map event_of read ≡ es
    pub at : event_of last ≡ e
    pub text : (AreReadFrom version (read ++ last ∷ []) ⨾ (λ rest. ⊤)) from.1
    pub received : Receives v from.0 read to
    pub failed : v.fails to (event_of last) error
    pub failed_read : v.fails_read to last error

  pub failed_read : (version : Version) (es : List TreeEvent) (from to : S × List ℕ) (e : TreeEvent) (error : E)
      → FoldsTo (TakesNext v version) from es to → FailsNext v version to e error
      → FailedRead version from es e to.0 error
  failed_read version [] from to e error h failed =
      let n = failed.5 in
      let state = ap (λ (p : S × List ℕ). p.0) h in
      let text = ap (λ (p : S × List ℕ). p.1) h in record {
        read = [];
        last = failed.0;
        before = refl;
        at = failed.1;
        text = record {
          front = n.0 ++ n.1;
          back = failed.4;
          text = text ∙ n.2;
          first = (n.0, n.1, [], sym (append-nil (n.0 ++ n.1)), n.3, n.4, refl);
          second = tt;
        };
        received = state;
        failed = failed.2;
        failed_read = failed.3;
      }
  failed_read version (e' ∷ es) from to e error h failed =
      let k = failed_read version es h.0 to e error h.2 failed in
      let n = h.1.4 in record {
        read = h.1.0 ∷ k.read;
        last = k.last;
        before = ap₂ (λ (x : TreeEvent) (l : List TreeEvent). x ∷ l) h.1.1 k.before;
        at = k.at;
        text = record {
          front = n.0 ++ n.1 ++ k.text.front;
          back = k.text.back;
          text = n.2 ∙ ap (λ (l : List ℕ). n.0 ++ n.1 ++ l) k.text.text
              ∙ sym (append_assoc (n.0 ++ n.1) k.text.front k.text.back);
          first = (n.0, n.1, k.text.front, refl, n.3, n.4, k.text.first);
          second = tt;
        };
        received = (h.0.0, (h.1.2, h.1.3), k.received);
        failed = k.failed;
        failed_read = k.failed_read;
      }

module _ {S O E : Type 0} (v : Ghosts S O E) (p : Parser) (kind : FieldKind) (from : S) where
  abbrev version : Version
  version = version_of p

  abbrev t : List ℕ
  t = input_of p

  abbrev Visits : Result O (ParseError E) → Type 0
  Visits r = VisitsFieldAsRead v p kind from r

  -- the same, whether its texts are borrowed or owned
  pub on_tree : (r : Result O (ParseError E)) → Visits r
      → VisitsField v.takes v.fails v.finishes v.finish_fails version kind t from r
  on_tree (Ok out) h = (h.0, h.1, (h.2.0.0, run_of v version (events kind h.0) (from, t) h.2.0 h.2.1, h.2.2))
  on_tree (Err (Syntax e)) h = (h.0, λ raw q whole. finished raw (index_of e) (h.1 raw q whole), took (index_of e) h.2)
    where
      finished : (raw : RawField kind) (o : Option ℕ) → MatchOption o ⊤ (λ index. (kind ≡ item_field) × (out : O)
          × ReturnsAfter (TakesNext v version) (λ s out. v.finishes s.0 out) (from, t) (events kind raw) out)
          → MatchOption o ⊤ (λ index. (kind ≡ item_field) × (out : O)
          × ReturnsAfter v.takes v.finishes from (events kind raw) out)
      finished raw None m = tt
      finished raw (Some n) m =
          (m.0, m.1, (m.2.0.0, run_of v version (events kind raw) (from, t) m.2.0 m.2.1, m.2.2))

      took : (o : Option ℕ) → MatchOption o ⊤ (λ index. (to : S × List ℕ)
          × FoldsTo (TakesNext v version) (from, t) (visited (events kind) (whole_field_at version kind t)) to)
          → MatchOption o ⊤ (λ index. (to : S)
          × FoldsTo v.takes from (visited (events kind) (whole_field_at version kind t)) to)
      took None m = tt
      took (Some n) m =
          (m.0.0, run_of v version (visited (events kind) (whole_field_at version kind t)) (from, t) m.0 m.1)
  on_tree (Err (Visitor f)) (inl r) = inl (record {
    before = r.before;
    e = r.e;
    after = r.after;
    s = r.s.0;
    all = r.all;
    taken = run_of v version r.before (from, t) r.s r.taken;
    failed = subst (λ e. v.fails r.s.0 e f) r.failed.1 r.failed.2;
  })
  on_tree (Err (Visitor f)) (inr x) =
      inr (x.0, x.1, x.2.0, x.3, run_of v version (events kind x.0) (from, t) x.2 x.4, x.5, x.6)

  -- a failure of the visitor at one of the events that it is passed
  abbrev pub Fails : E → Type 0
  Fails f = VisitorFails (TakesNext v version) (FailsNext v version) (events kind) (whole_field_at version kind t) (from, t) f

  -- a failure at one of these events, of which those up to the failure are known
  pub fails_on : (all after : List TreeEvent) (may_finish : Type 0) (f : E) (r : Fails f)
      → all ≡ r.before ++ r.e ∷ after → FailsOn v p from all may_finish f
  fails_on all after may_finish f r split =
      let k = failed_read v version r.before (from, t) r.s r.e f r.taken r.failed in
      at_event k.read k.last after r.s.0 (split ∙ ap₂ (λ (l : List TreeEvent) (e : TreeEvent). l ++ e ∷ after)
      (sym k.before) (sym k.at)) k.text k.received k.failed k.failed_read

  failed_on_accepted : (f : E) → Visits (Err (Visitor f)) → (raw : RawField kind) → IsFieldText version kind raw t
      → FailsOn v p from (events kind raw) ⊤ f
  failed_on_accepted f (inl r) raw h = fails_on (events kind raw) r.after ⊤ f r
      (ap (visited (events kind)) (sym (whole_accepted version kind t raw h)) ∙ r.all)
  failed_on_accepted f (inr x) raw h =
      let same = same_value (whole_field_at version kind t) x.0 raw x.1 [] x.3 (whole_accepted version kind t raw h) in
      at_end x.2.0 tt (subst (λ (i : RawField kind). FoldsTo v.takes from (events kind i) x.2.0) same
      (run_of v version (events kind x.0) (from, t) x.2 x.4)) x.5

  -- a failure at one of the first events of a field is one on it
  failed_within : (raw : RawField kind) (es others : List TreeEvent) (may_finish : Type 0) (f : E)
      → events kind raw ≡ es ++ others → (r : Fails f) → es ≡ r.before ++ r.e ∷ r.after
      → FailsOn v p from (events kind raw) may_finish f
  failed_within raw es others may_finish f all r split = fails_on (events kind raw) (r.after ++ others) may_finish f r
      (all ∙ ap (λ (l : List TreeEvent). l ++ others) split ∙ append_assoc r.before (r.e ∷ r.after) others)

  failed_somewhere : (f : E) → Visits (Err (Visitor f)) → ¬ IsAccepted version kind t
      → (raw : RawField kind) × IsFieldValue kind raw × FailsOn v p from (events kind raw) (kind ≡ item_field) f
  failed_somewhere f (inl r) rejected =
      let b = visited_begins version kind t in (
        b.raw,
        b.is_value,
        failed_within b.raw (visited (events kind) (whole_field_at version kind t)) b.more (kind ≡ item_field) f b.all r
            r.all,
      )
  failed_somewhere f (inr x) rejected =
      let accepted : x.1 ≡ [] → IsFieldText version kind x.0 t =
      λ end. (read_is_accepted version kind t x.0).0 (whole_read version kind t x.1 x.0 x.3 end) in (
        x.0,
        whole_value version kind t x.1 x.0 x.3,
        at_end x.2.0 (asked_of_item kind x.1 x.6 (λ end. rejected (x.0, accepted end)))
            (run_of v version (events kind x.0) (from, t) x.2 x.4) x.5,
      )

  -- on a rejected text: the events begin those of a field that begins as the text does up to its reach
  failed_from : (f : E) → Visits (Err (Visitor f)) → ¬ IsAccepted version kind t → (n : ℕ) → IsReach version kind t n
      → (raw : RawField kind) × (more : List ℕ) × IsFieldText version kind raw (take n t ++ more)
      × FailsOn v p from (events kind raw) ((kind ≡ item_field) × (more ≡ [])) f
  failed_from f (inl r) rejected n reach =
      let b = visited_reach version kind t rejected n reach in (
        b.raw,
        b.more,
        b.accepted,
        failed_within b.raw (visited (events kind) (whole_field_at version kind t)) b.others
            ((kind ≡ item_field) × (b.more ≡ [])) f b.all r r.all,
      )
  failed_from f (inr x) rejected n reach =
      let accepted : x.1 ≡ [] → IsFieldText version kind x.0 t =
      λ end. (read_is_accepted version kind t x.0).0 (whole_read version kind t x.1 x.0 x.3 end) in (
        x.0,
        [],
        subst (IsFieldText version kind x.0) (sym (append-nil (take n t)))
            (text_before version kind t x.1 x.0 x.3 (λ end. rejected (x.0, accepted end)) n reach),
        at_end x.2.0 (asked_of_item kind x.1 x.6 (λ end. rejected (x.0, accepted end)), refl)
            (run_of v version (events kind x.0) (from, t) x.2 x.4) x.5,
      )

  pub visits_failure : (r : Result O (ParseError E)) → Visits r → IfErr r (IsVisitorErrorBy v p kind from)
  visits_failure (Ok out) h = tt
  visits_failure (Err (Syntax e)) h = tt
  visits_failure (Err (Visitor f)) h =
      (failed_on_accepted f h, λ rejected. (failed_somewhere f h rejected, failed_from f h rejected))
