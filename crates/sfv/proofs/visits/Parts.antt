-- Visiting the events of a reading, by the parts of the reading.
use Rattle.std.proofs.Common.{◌≡◌, ℕ, List, [], ◌∷◌, ◌++◌, Ok, Err, refl, sym, ap, subst, ◌∙◌, append_assoc, Result}
use Rattle.std.{proofs.Common.append-nil, specs.List.FoldsTo, specs.declared.alloc.Global.Global}
use Rattle.sfv_model.specs.Reader.{Answer, Reader, visited, and_then, bind, give, led_answer, led, ◌>>=◌}
use Rattle.sfv_model.{specs.Visits.VisitorFails, proofs.complete.Combinators.{bind_complete, led_complete}}
use Rattle.sfv_model.proofs.visits.Parts.{visited_then, visited_first, failed_within}
use Rattle.sfv_base.specs.declared.error.ParseError.{ParseError, TheVariants.{Syntax, Visitor}}
use Rattle.sfv.specs.{Field.{Version, TreeEvent}, declared.parser.Parser.Parser, declared.parser.cursor.Cursor.Cursor}
use Rattle.sfv.specs.parser.{Cursor.{kept, kept_input, kept_version, rest}, Visits.{Visits, VisitsAnswer, IsOfVisitor}}
use Rattle.sfv.proofs.visits.{Parameters.of_visitor, Taken.{runs_on, took_after, took_part, took_same}}

visited_as : {A : Type 0} (parts parts' : A → List TreeEvent) (a : Answer A)
    → ((v : A) (s : List ℕ) → a ≡ Ok (v, s) → parts' v ≡ parts v) → visited parts' a ≡ visited parts a
visited_as parts parts' (Ok x) each = each x.0 x.1 refl
visited_as parts parts' (Err x) each = refl

module _ {S E : Type 0} (takes : S → TreeEvent → S → Type 0) (fails : S → TreeEvent → E → Type 0) where
  -- a reading by a cursor that has kept its parser
  pub kept_visits : {A : Type 0} (parts : A → List TreeEvent) (f : Version → Reader A)
      (middle after : Cursor) (from to : S) (j : Parser × Global) (r : Result (Unit {0}) (ParseError E))
      → kept middle ≡ j → Visits takes fails parts middle after from to r f
      → VisitsAnswer takes fails parts j after from to r (f (kept_version j) (rest middle))
  kept_visits parts f middle after from to j r same h = subst (λ (k : Parser
      × Global). VisitsAnswer takes fails parts k after from to r (f (kept_version k) (rest middle))) same h

  -- a reading from the start of the input
  pub start_visits : {A : Type 0} (parts : A → List TreeEvent) (f : Version → Reader A)
      (start after : Cursor) (from to : S) (j : Parser × Global) (r : Result (Unit {0}) (ParseError E))
      → kept start ≡ j → rest start ≡ kept_input j → Visits takes fails parts start after from to r f
      → VisitsAnswer takes fails parts j after from to r (f (kept_version j) (kept_input j))
  start_visits parts f start after from to j r same whole h =
      subst (λ (t : List ℕ). VisitsAnswer takes fails parts j after from to r (f (kept_version j) t)) whole
      (kept_visits parts f start after from to j r same h)

  -- the same reading, and the same events
  pub visits_as : {A : Type 0} (parts parts' : A → List TreeEvent) (a b : Answer A) (from to : S) (k : Parser
      × Global) (after : Cursor) (r : Result (Unit {0}) (ParseError E)) → b ≡ a
      → ((v : A) (s : List ℕ) → a ≡ Ok (v, s) → parts' v ≡ parts v)
      → VisitsAnswer takes fails parts k after from to r a → VisitsAnswer takes fails parts' k after from to r b
  visits_as parts parts' a b from to k after (Ok u) eq each h =
      (h.0, eq ∙ h.1, subst (λ es. FoldsTo takes from es to) (sym (each h.0 (rest after) h.1)) h.2, h.3)
  visits_as parts parts' a b from to k after (Err (Syntax e)) eq each h = took_same _ _ _ _ _ _ _ _ _ eq h
  visits_as parts parts' a b from to k after (Err (Visitor f)) eq each h =
      record {
        before = h.before;
        e = h.e;
        after = h.after;
        s = h.s;
        all = ap (visited parts') eq ∙ visited_as parts parts' a each ∙ h.all;
        taken = h.taken;
        failed = h.failed;
      }

  -- an event, and then a reading
  led_visited : {A : Type 0} (e : TreeEvent) (parts : A → List TreeEvent) (a : Answer A)
      → visited (λ v. e ∷ parts v) (led_answer (e ∷ []) a) ≡ e ∷ visited parts a
  led_visited e parts (Ok x) = refl
  led_visited e parts (Err f) = refl

  led_failed : {A : Type 0} (e : TreeEvent) (parts : A → List TreeEvent) (f : Reader A) (t : List ℕ) (from : S)
      (fault : E) → fails from e fault → VisitorFails takes fails (λ v. e ∷ parts v) (led (e ∷ []) f t) from fault
  unfolding led
  led_failed e parts f t from fault h = record {
    before = [];
    e = e;
    after = visited parts (f t);
    s = from;
    all = led_visited e parts (f t);
    taken = refl;
    failed = h;
  }

  -- the visitor fails at the event
  pub led_fails : {A : Type 0} (e : TreeEvent) (parts : A → List TreeEvent) (f : Reader A) (t : List ℕ)
      (from to : S) (k : Parser × Global) (after : Cursor) (error : ParseError E) → IsOfVisitor (fails from e) error
      → VisitsAnswer takes fails (λ v. e ∷ parts v) k after from to (Err error) (led (e ∷ []) f t)
  led_fails e parts f t from to k after error h = of_visitor _ _ _ k after _ _ _ _ _ h (led_failed _ _ _ _ _)

  pub led_visits : {A : Type 0} (e : TreeEvent) (parts : A → List TreeEvent) (f : Reader A)
      (t : List ℕ) (from middle to : S) (k : Parser × Global) (after : Cursor) (r : Result (Unit {0}) (ParseError E))
      → takes from e middle → VisitsAnswer takes fails parts k after middle to r (f t)
      → VisitsAnswer takes fails (λ v. e ∷ parts v) k after from to r (led (e ∷ []) f t)
  unfolding led
  led_visits e parts f t from middle to k after (Ok u) taken h =
      (h.0, led_complete (e ∷ []) f t (rest after) h.0 h.1, (middle, taken, h.2), h.3)
  led_visits e parts f t from middle to k after (Err (Syntax error)) taken h =
      took_after takes parts (λ v. e ∷ parts v) (kept_input k) error (f t) (led_answer (e ∷ []) (f t)) (e ∷ []) from middle
      to (λ x m. ap (led_answer (e ∷ [])) m) (middle, taken, refl) h
  led_visits e parts f t from middle to k after (Err (Visitor fault)) taken h = record {
    before = e ∷ h.before;
    e = h.e;
    after = h.after;
    s = h.s;
    all = led_visited e parts (f t) ∙ ap (λ (es : List TreeEvent). e ∷ es) h.all;
    taken = (middle, taken, h.taken);
    failed = h.failed;
  }

  -- a value in another form
  pub map_visits : {A B : Type 0} (g : A → B) (parts : A → List TreeEvent) (parts' : B → List TreeEvent) (f : Reader A)
      (t : List ℕ) (from to : S) (k : Parser × Global) (after : Cursor) (r : Result (Unit {0}) (ParseError E))
      → ((v : A) → parts' (g v) ≡ parts v) → VisitsAnswer takes fails parts k after from to r (f t)
      → VisitsAnswer takes fails parts' k after from to r ((f >>= λ v. give (g v)) t)
  unfolding give bind
  map_visits g parts parts' f t from to k after (Ok u) each h = (
    g h.0,
    bind_complete f (λ v. give (g v)) t (rest after) h.0 h.1,
    subst (λ es. FoldsTo takes from es to) (sym (each h.0)) h.2,
    h.3,
  )
  map_visits g parts parts' f t from to k after (Err (Syntax e)) each h =
      took_part takes parts parts' (kept_input k) e f (λ v. give (g v)) t _ from to refl h
  map_visits {A} {B} g parts parts' f t from to k after (Err (Visitor fault)) each h =
      record {
        before = h.before;
        e = h.e;
        after = h.after;
        s = h.s;
        all = mapped ∙ h.all;
        taken = h.taken;
        failed = h.failed;
      }
    where
      on : (a : Answer A) → visited parts' (and_then a (λ v. give (g v))) ≡ visited parts a
      on (Ok x) = each x.0
      on (Err x) = refl

      mapped : visited parts' ((f >>= λ v. give (g v)) t) ≡ visited parts (f t)
      mapped = on (f t)

  -- one reading after another, whose events were visited
  pub then_visits : {A B : Type 0} (f : Reader A) (g : A → Reader B) (first : A → List TreeEvent)
      (parts more : B → List TreeEvent) (t q : List ℕ) (v : A) (from middle to : S)
      (k : Parser × Global) (after : Cursor) (r : Result (Unit {0}) (ParseError E)) → f t ≡ Ok (v, q)
      → FoldsTo takes from (first v) middle → ((w : B) (s : List ℕ) → g v q ≡ Ok (w, s) → parts w ≡ first v ++ more w)
      → VisitsAnswer takes fails more k after middle to r (g v q)
      → VisitsAnswer takes fails parts k after from to r ((f >>= λ v. led (first v) (g v)) t)
  unfolding led
  then_visits f g first parts more t q v from middle to k after (Ok u) e run each h = (
    h.0,
    bind_complete _ _ _ _ _ e ∙ led_complete (first v) (g v) q _ _ h.1,
    subst (λ es. FoldsTo takes from es to) (sym (each h.0 (rest after) h.1)) (runs_on _ _ _ _ _ _ run h.2),
    h.3,
  )
  then_visits {A} {B} f g first parts more t q v from middle to k after (Err (Syntax error)) e run each h =
      took_after _ _ _ _ _ _ _ _ _ _ _ (λ x m. bind_complete _ _ _ _ _ e ∙ ap (led_answer (first v)) m) run h
  then_visits f g first parts more t q v from middle to k after (Err (Visitor fault)) e run each h = record {
    before = first v ++ h.before;
    e = h.e;
    after = h.after;
    s = h.s;
    all = visited_then f g first parts more t q v e each ∙ ap (λ (es : List TreeEvent). first v ++ es) h.all
        ∙ sym (append_assoc (first v) h.before (h.e ∷ h.after));
    taken = runs_on takes (first v) h.before from middle h.s run h.taken;
    failed = h.failed;
  }

  -- a failure within the first of two readings
  pub first_failed : {A B : Type 0} (f : Reader A) (g : A → Reader B) (first : A → List TreeEvent) (parts more : B
      → List TreeEvent) (t : List ℕ) (from : S) (fault : E)
      → ((v : A) (q : List ℕ) (w : B) (r : List ℕ) → f t ≡ Ok (v, q) → g v q ≡ Ok (w, r) → parts w ≡ first v ++ more w)
      → VisitorFails takes fails first (f t) from fault
      → VisitorFails takes fails parts ((f >>= λ v. led (first v) (g v)) t) from fault
  first_failed f g first parts more t from fault each h =
      let w = visited_first _ _ _ _ _ _ each in
      failed_within _ _ _ _ _ _ [] w.0 w.1 _ _ _ refl (λ es to run. run) h

  -- a failure, where more is visited after what was read
  pub failed_longer : {A : Type 0} (parts longer : A → List TreeEvent) (a : Answer A) (from : S) (fault : E)
      → ((v : A) → (more : List TreeEvent) × (longer v ≡ parts v ++ more)) → VisitorFails takes fails parts a from fault
      → VisitorFails takes fails longer a from fault
  failed_longer {A} parts longer a from fault each h =
      let w = on a in
      failed_within takes fails parts a longer a [] w.0 w.1 from from fault refl (λ es to run. run) h
    where
      on : (a : Answer A) → (more : List TreeEvent) × (visited longer a ≡ visited parts a ++ more)
      on (Ok x) = each x.0
      on (Err x) = ([], sym (append-nil x.events))

  -- a failure after what was read
  pub failed_after : {A : Type 0} (parts longer : A → List TreeEvent) (e : TreeEvent)
      (a : Answer A) (v : A) (q : List ℕ) (from middle : S) (fault : E) → a ≡ Ok (v, q) → longer v ≡ parts v ++ e ∷ []
      → FoldsTo takes from (parts v) middle → fails middle e fault → VisitorFails takes fails longer a from fault
  failed_after parts longer e a v q from middle fault read all run h =
      record {
        before = parts v;
        e = e;
        after = [];
        s = middle;
        all = ap (visited longer) read ∙ all;
        taken = run;
        failed = h;
      }
