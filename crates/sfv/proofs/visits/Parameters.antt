-- The loop over parameters: the visitor has taken those that were read.
use Rattle.std.proofs.Common.{◌≡◌, ℕ, List, [], ◌∷◌, ◌++◌, Some, None, Result, Ok, Err, refl, sym, ap, subst, ◌∙◌}
use Rattle.std.proofs.Common.{append_assoc, OnOk, IfErr, map, flat_map}
use Rattle.std.{specs.List.FoldsTo, specs.declared.alloc.Global.Global, proofs.lemmas.List.map-append}
use Rattle.sfv_spec.specs.Events.{TreeEvent, parameter, parameters_end, parameters_events, bare_item, item_events}
use Rattle.sfv_spec.specs.{Values.{BareValue, RawParameters, RawItem}, declared.version.Version.Version}
use Rattle.sfv_model.specs.{Bare.bare_at, Items.{parameter_event, parameter_at, parameters_at, item_at, item_of}}
use Rattle.sfv_model.specs.Reader.{Answer, Fault, after_events, visited, and_then, bind, give, led, led_answer, ◌>>=◌}
use Rattle.sfv_model.specs.Visits.{VisitorFails}
use Rattle.sfv_model.proofs.{complete.Combinators.bind_complete, sound.Items.Consumes-parameter}
use Rattle.sfv_model.proofs.{sound.Many.{in_front, starts, goes_on, is_done, is_faulty}, visits.Parts.visited_then}
use Rattle.sfv_base.specs.declared.error.{Error.Error, ParseError.ParseError, ParseError.TheVariants.{Syntax, Visitor}}
use Rattle.sfv.specs.declared.parser.{Parser.Parser, cursor.Cursor.Cursor}
use Rattle.sfv.specs.parser.Cursor.{kept, kept_input, kept_version, rest, IsErrorOf}
use Rattle.sfv.{specs.parser.Visits.{VisitsAnswer, TookAll, IsOfVisitor}, proofs.reads.Steps.item_some}
use Rattle.sfv.proofs.visits.Taken.{runs_on, took_after, took_part, took_none, bare_quiet, parameter_quiet}

-- an error of the visitor, which fails at one of the events
pub of_visitor : {A S E : Type 0} (takes : S → TreeEvent → S → Type 0) (fails : S → TreeEvent → E → Type 0) (parts : A
    → List TreeEvent) (k : Parser × Global) (after : Cursor) (from to : S) (is : E → Type 0) (error : ParseError E)
    (answer : Answer A) → IsOfVisitor is error
    → ((fault : E) → is fault → VisitorFails takes fails parts answer from fault)
    → VisitsAnswer takes fails parts k after from to (Err error) answer
of_visitor takes fails parts k after from to is (Syntax e) answer h step = absurd h
of_visitor takes fails parts k after from to is (Visitor fault) answer h step = step fault h

-- the events of parameters, without their end
abbrev pub pair_events : RawParameters → List TreeEvent
pair_events raw = map (λ p. parameter p.0 p.1) raw

-- these are the parameters that were read between start and now, and the visitor has taken them
pub record VisitedParameters {S : Type 0} (takes : S → TreeEvent
    → S → Type 0) (version : Version) (start now : List ℕ) (from to : S) : Type 0 where
  pub raw : RawParameters
  pub so_far : in_front parameter_event raw (parameters_at version now) ≡ parameters_at version start
  pub taken : FoldsTo takes from (pair_events raw) to

unfoldable pub visited_none : {S : Type 0} (takes : S → TreeEvent → S → Type 0) (version : Version) (start : List ℕ) (from : S)
    → VisitedParameters takes version start start from from
visited_none takes version start from = record {
  raw = [];
  so_far = starts parameter_event (parameters_at version start);
  taken = refl;
}

unfoldable pub visited_more : {S : Type 0} (takes : S → TreeEvent
    → S → Type 0) (version : Version) (start now r k : List ℕ) (v : BareValue) (from middle to : S)
    → VisitedParameters takes version start now from middle → parameter_at version now ≡ Ok (Some (k, v), r)
    → takes middle (parameter k v) to → VisitedParameters takes version start r from to
unfolding parameters_at
visited_more takes version start now r k v from middle to h read taken = record {
  raw = h.raw ++ (k, v) ∷ [];
  so_far = goes_on parameter_event (parameter_at version) (Consumes-parameter version) h.raw (
    k,
    v,
  ) now r (parameters_at version start) read h.so_far;
  taken = subst (λ es. FoldsTo takes from es to) (sym (map-append (λ (p : List ℕ × BareValue). parameter p.0 p.1) h.raw
      ((k, v) ∷ []))) (runs_on takes (pair_events h.raw) (parameter k v ∷ []) from middle to h.taken (to, taken, refl));
}

pub visited_all : {S : Type 0} (takes : S → TreeEvent → S → Type 0) (version : Version)
    (start now r : List ℕ) (from middle to : S) (h : VisitedParameters takes version start now from middle)
    → parameter_at version now ≡ Ok (None, r) → takes middle parameters_end to
    → (parameters_at version start ≡ Ok (h.raw, r)) × FoldsTo takes from (parameters_events h.raw) to
unfolding parameters_at
visited_all takes version start now r from middle to h read taken = (
  is_done _ _ (Consumes-parameter _) _ _ _ _ read h.so_far,
  runs_on _ _ _ _ _ _ h.taken (to, taken, refl),
)

-- what is visited after parameters that stand in front
front_events : (front : RawParameters) → flat_map parameter_event front ≡ pair_events front
front_events [] = refl
front_events (p ∷ front) = ap (λ (es : List TreeEvent). parameter p.0 p.1 ∷ es) (front_events front)

front_visited : (front : RawParameters) (a : Answer RawParameters)
    → (more : List TreeEvent) × (visited parameters_events (in_front parameter_event front a)
    ≡ pair_events front ++ more)
front_visited front (Ok x) = (
  pair_events x.0 ++ parameters_end ∷ [],
  ap (λ (es : List TreeEvent). es ++ parameters_end ∷ [])
      (map-append (λ (p : List ℕ × BareValue). parameter p.0 p.1) front x.0)
      ∙ append_assoc (pair_events front) (pair_events x.0) (parameters_end ∷ []),
)
front_visited front (Err e) = (e.events, ap (λ (es : List TreeEvent). es ++ e.events) (front_events front))

-- the visitor fails at a parameter
pub parameter_failed : {S E : Type 0} (takes : S → TreeEvent → S → Type 0) (fails : S → TreeEvent
    → E → Type 0) (version : Version) (start now r k : List ℕ) (v : BareValue) (from middle : S) (fault : E)
    → VisitedParameters takes version start now from middle → parameter_at version now ≡ Ok (Some (k, v), r)
    → fails middle (parameter k v) fault → VisitorFails takes fails parameters_events (parameters_at version start) from
    fault
unfolding parameters_at
parameter_failed takes fails version start now r k v from middle fault h read failed =
    let whole = goes_on _ _ (Consumes-parameter _) _ _ _ _ _ read h.so_far in
    let more = front_visited _ _ in
    record {
      before = pair_events h.raw;
      e = parameter k v;
      after = more.0;
      s = middle;
      all = ap (visited parameters_events) (sym whole) ∙ more.1 ∙ ap (λ (es : List TreeEvent). es ++ more.0)
          (map-append (λ (p : List ℕ × BareValue). parameter p.0 p.1) h.raw ((k, v) ∷ []))
          ∙ append_assoc (pair_events h.raw) (parameter k v ∷ []) more.0;
      taken = h.taken;
      failed = failed;
    }

-- the visitor fails at their end
pub end_failed : {S E : Type 0} (takes : S → TreeEvent → S → Type 0) (fails : S → TreeEvent
    → E → Type 0) (version : Version) (start now r : List ℕ) (from middle : S) (fault : E)
    → VisitedParameters takes version start now from middle → parameter_at version now ≡ Ok (None, r)
    → fails middle parameters_end fault → VisitorFails takes fails parameters_events (parameters_at version start) from
    fault
unfolding parameters_at
end_failed takes fails version start now r from middle fault h read failed = record {
  before = pair_events h.raw;
  e = parameters_end;
  after = [];
  s = middle;
  all = ap (visited parameters_events) (is_done _ _ (Consumes-parameter _) _ _ _ _ read h.so_far);
  taken = h.taken;
  failed = failed;
}

-- after the last parameter, their end is visited
pub end_visits : {S E : Type 0} (takes : S → TreeEvent → S → Type 0) (fails : S → TreeEvent → E → Type 0)
    (version : Version) (start now : List ℕ) (from middle to : S) (k : Parser × Global)
    (after : Cursor) (r : Result (Unit {0}) (ParseError E)) → VisitedParameters takes version start now from middle
    → parameter_at version now ≡ Ok (None, rest after) → kept after ≡ k
    → OnOk r (takes middle parameters_end to) → IfErr r (IsOfVisitor (fails middle parameters_end))
    → VisitsAnswer takes fails parameters_events k after from to r (parameters_at version start)
end_visits takes fails version start now from middle to k after (Ok u) h read same taken failed = let all =
    visited_all takes version start now (rest after) from middle to h read taken in (h.raw, all.0, all.1, same)
end_visits takes fails version start now from middle to k after (Err e) h read same taken failed =
    of_visitor _ _ _ k after _ _ _ _ _ failed (λ fault failed. end_failed _ _ _ _ _ _ _ _ _ h read failed)

-- a fault of one parameter is the fault of the loop
pub visited_error : {S : Type 0} (takes : S → TreeEvent
    → S → Type 0) (start now : List ℕ) (from middle : S) (i j : Parser × Global) (e : Error) → i ≡ j
    → VisitedParameters takes (kept_version j) start now from middle
    → IsErrorOf (kept_input i) e (parameter_at (kept_version i) now)
    → IsErrorOf (kept_input j) e (parameters_at (kept_version j) start)
    × TookAll takes parameters_events e (parameters_at (kept_version j) start) from middle
unfolding parameters_at
visited_error takes start now from middle i j e same h error =
    let version = kept_version j in
    took_after _ (λ _. []) _ _ _ _ _ _ _ _ _ (λ f k. is_faulty _ _ (Consumes-parameter _) _ _ _ _ k h.so_far)
    (subst (λ (es : List TreeEvent). FoldsTo takes from es middle) (sym (front_events _)) h.taken)
    (took_none _ _ _ _ _ _ (parameter_quiet _ _)
    (subst (λ (k : Parser × Global). IsErrorOf (kept_input k) e (parameter_at (kept_version k) now)) same error))

-- ---- items

given_visited : (b : BareValue) (a : Answer RawParameters) → visited (λ (i : RawItem). parameters_events i.parameters)
    (and_then a (λ ps. give (item_of b ps))) ≡ visited parameters_events a
unfolding give
given_visited b (Ok x) = refl
given_visited b (Err e) = refl

given_events : (b : BareValue) (a : Answer RawParameters) (w : RawItem) (r : List ℕ)
    → and_then a (λ ps. give (item_of b ps)) ≡ Ok (w, r)
    → item_events w ≡ (bare_item b ∷ []) ++ parameters_events w.parameters
unfolding give
given_events b (Ok x) w r e =
    let here : RawItem × List ℕ = (item_of b x.0, x.1) in
    let there : RawItem × List ℕ = (w, r) in
    let same : here ≡ there = cc in
    ap (λ (p : RawItem × List ℕ). bare_item p.0.bare ∷ parameters_events w.parameters) (sym same)
given_events b (Err f) w r e = absurd cc

item_visited : (version : Version) (t q : List ℕ) (b : BareValue) → bare_at version t ≡ Ok (b, q)
    → visited item_events (item_at version t) ≡ bare_item b ∷ visited parameters_events (parameters_at version q)
unfolding item_at bind
item_visited version t q b e = visited_then (bare_at version)
    (λ bare. parameters_at version >>= λ ps. give (item_of bare ps)) (λ bare. bare_item bare ∷ []) item_events
    (λ i. parameters_events i.parameters) t q b e (given_events b (parameters_at version q))
    ∙ ap (λ (es : List TreeEvent). bare_item b ∷ es) (given_visited b (parameters_at version q))

-- the visitor fails at the bare item
pub bare_failed : {S E : Type 0} (takes : S → TreeEvent → S → Type 0) (fails : S → TreeEvent → E → Type 0)
    (version : Version) (t q : List ℕ) (b : BareValue) (from : S) (fault : E) → bare_at version t ≡ Ok (b, q)
    → fails from (bare_item b) fault → VisitorFails takes fails item_events (item_at version t) from fault
bare_failed takes fails version t q b from fault e failed = record {
  before = [];
  e = bare_item b;
  after = visited parameters_events (parameters_at version q);
  s = from;
  all = item_visited version t q b e;
  taken = refl;
  failed = failed;
}

-- the visitor fails at a parameter of it, or their end
pub parameters_failed : {S E : Type 0} (takes : S → TreeEvent → S → Type 0) (fails : S → TreeEvent
    → E → Type 0) (version : Version) (t q : List ℕ) (b : BareValue) (from middle : S) (fault : E)
    → bare_at version t ≡ Ok (b, q) → takes from (bare_item b) middle
    → VisitorFails takes fails parameters_events (parameters_at version q) middle fault
    → VisitorFails takes fails item_events (item_at version t) from fault
parameters_failed takes fails version t q b from middle fault e taken r = record {
  before = bare_item b ∷ r.before;
  e = r.e;
  after = r.after;
  s = r.s;
  all = item_visited version t q b e ∙ ap (λ (es : List TreeEvent). bare_item b ∷ es) r.all;
  taken = (middle, taken, r.taken);
  failed = r.failed;
}

item_fault : (version : Version) (t q : List ℕ) (b : BareValue) (x : Fault) → bare_at version t ≡ Ok (b, q)
    → parameters_at version q ≡ Err x → item_at version t ≡ Err (after_events (bare_item b ∷ []) x)
unfolding item_at bind led
item_fault version t q b x e m =
    bind_complete (bare_at version) (λ b. led (bare_item b ∷ []) (parameters_at version >>= λ ps. give (item_of b ps))) t
    q b e ∙ ap (λ a. led_answer (bare_item b ∷ []) (and_then a (λ ps. give (item_of b ps)))) m

-- the bare item is faulty
pub bare_faulty : {S : Type 0} (takes : S → TreeEvent → S → Type 0) (version : Version) (t i : List ℕ) (e : Error)
    (from : S) → IsErrorOf i e (bare_at version t)
    → IsErrorOf i e (item_at version t) × TookAll takes item_events e (item_at version t) from from
unfolding item_at
bare_faulty takes version t i e from h =
    took_part _ (λ _. []) _ _ _ _ _ _ _ _ _ refl (took_none _ _ _ _ _ _ (bare_quiet _ _) h)

-- an item, by its bare item and the parameters after it
pub item_visits : {S E : Type 0} (takes : S → TreeEvent → S → Type 0) (fails : S → TreeEvent → E → Type 0)
    (version : Version) (t q : List ℕ) (b : BareValue) (from middle to : S) (k : Parser × Global) (after : Cursor)
    (r : Result (Unit {0}) (ParseError E)) → bare_at version t ≡ Ok (b, q) → takes from (bare_item b) middle
    → VisitsAnswer takes fails parameters_events k after middle to r (parameters_at version q)
    → VisitsAnswer takes fails item_events k after from to r (item_at version t)
item_visits takes fails version t q b from middle to k after (Ok u) e taken h =
    (item_of b h.0, item_some version t q (rest after) b h.0 e h.1, (middle, taken, h.2), h.3)
item_visits takes fails version t q b from middle to k after (Err (Syntax error)) e taken h =
    took_after takes parameters_events item_events (kept_input k) error (parameters_at version q) (item_at version t)
    (bare_item b ∷ []) from middle to (λ x m. item_fault version t q b x e m) (middle, taken, refl) h
item_visits takes fails version t q b from middle to k after (Err (Visitor fault)) e taken h =
    parameters_failed takes fails version t q b from middle fault e taken h
