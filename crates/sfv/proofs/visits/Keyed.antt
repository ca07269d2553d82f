-- A member of a dictionary, and how it is visited.
use Rattle.std.proofs.Common.{◌≡◌, ℕ, true, false, List, [], ◌∷◌, ◌++◌, Ok, Err, refl, sym, ap, ◌∙◌, Result}
use Rattle.std.specs.declared.alloc.Global.{Global}
use Rattle.sfv_spec.specs.Events.{TreeEvent, keyed_entry, begins_item, bare_item, parameters_events, member_events}
use Rattle.sfv_spec.specs.{Events.keyed_events, Values.{boolean, RawParameters, RawMember}}
use Rattle.sfv_spec.proofs.Marks.{equals_sign, true_with}
use Rattle.sfv_model.specs.{Items.{key_at, parameters_at}, Members.{member_at, member_value_at, keyed_at}}
use Rattle.sfv_model.specs.Reader.{Answer, Reader, byte, visited, led_answer, led, give, and_then, bind, ◌>>=◌}
use Rattle.sfv_model.proofs.visits.Parts.{visited_then}
use Rattle.sfv.specs.Types.{Version, Error, ParseError}
use Rattle.sfv.specs.declared.parser.{Parser.Parser, cursor.Cursor.Cursor}
use Rattle.sfv.specs.parser.{Cursor.{TakesIf, kept_input, IsErrorOf}, Visits.{VisitsAnswer, TookAll, IsOfVisitor}}
use Rattle.sfv.proofs.reads.Steps.{branch_true, branch_false}
use Rattle.sfv.proofs.visits.{Parameters.of_visitor, Parts.{visits_as, map_visits, then_visits, led_visits, led_fails}}
use Rattle.sfv.proofs.visits.Taken.{took_part, took_none, key_quiet}

-- the pair of a key and what stands after it
abbrev pair_at : Version → List ℕ → Reader (List ℕ × RawMember)
pair_at version key = member_value_at version >>= λ m. give (key, m)

-- what is visited after the key
abbrev after_key : List ℕ × RawMember → List TreeEvent
after_key m = member_events m.1

pair_events : (version : Version) (key q : List ℕ) (w : List ℕ × RawMember) (r : List ℕ)
    → pair_at version key q ≡ Ok (w, r) → keyed_events w ≡ (keyed_entry key ∷ []) ++ after_key w
unfolding bind give
pair_events version key q w r e = on (member_value_at version q) e
  where
    on : (a : Answer RawMember) → and_then a (λ m. give (key, m)) ≡ Ok (w, r)
        → keyed_events w ≡ (keyed_entry key ∷ []) ++ after_key w
    on (Ok x) h =
        let here : (List ℕ × RawMember) × List ℕ = ((key, x.0), x.1) in
        let there : (List ℕ × RawMember) × List ℕ = (w, r) in
        let same : here ≡ there = cc in
        ap (λ (p : (List ℕ × RawMember) × List ℕ). keyed_entry p.0.0 ∷ after_key w) (sym same)
    on (Err f) h = absurd cc

module _ {S E : Type 0} (takes : S → TreeEvent → S → Type 0) (fails : S → TreeEvent
    → E → Type 0) (version : Version) where
  -- ---- after the key

  pub value_visits : (t q : List ℕ) (from to : S) (k : Parser
      × Global) (after : Cursor) (r : Result (Unit {0}) (ParseError E)) → TakesIf (byte equals_sign) true t q
      → VisitsAnswer takes fails member_events k after from to r (member_at version q)
      → VisitsAnswer takes fails member_events k after from to r (member_value_at version t)
  unfolding member_value_at
  value_visits t q from to k after r m h = visits_as takes fails member_events member_events (member_at version q)
      (member_value_at version t) from to k after r (branch_true (byte equals_sign) _ _ t q m) (λ v s e. refl) h

  -- the item true, with its parameters
  abbrev true_at : Reader RawParameters
  true_at = led (begins_item ∷ []) (led (bare_item (boolean true) ∷ []) (parameters_at version))

  abbrev true_events : RawParameters → List TreeEvent
  true_events ps = begins_item ∷ bare_item (boolean true) ∷ parameters_events ps

  pub true_is : (t q : List ℕ) → TakesIf (byte equals_sign) false t q
      → member_value_at version t ≡ (true_at >>= λ ps. give (true_with ps)) q
  unfolding member_value_at bind led give
  true_is t q m = branch_false (byte equals_sign) _ _ t q m ∙ on (parameters_at version q)
    where
      on : (a : Answer RawParameters) → led_answer (begins_item ∷ bare_item (boolean true) ∷ [])
          (and_then a (λ ps. give (true_with ps)))
          ≡ and_then (led_answer (begins_item ∷ []) (led_answer (bare_item (boolean true) ∷ []) a))
          (λ ps. give (true_with ps))
      on (Ok x) = refl
      on (Err f) = refl

  as_true : (t q : List ℕ) (from to : S) (k : Parser × Global) (after : Cursor) (r : Result (Unit {0}) (ParseError E))
      → TakesIf (byte equals_sign) false t q → VisitsAnswer takes fails true_events k after from to r (true_at q)
      → VisitsAnswer takes fails member_events k after from to r (member_value_at version t)
  as_true t q from to k after r m h = visits_as takes fails member_events member_events ((true_at
      >>= λ ps. give (true_with ps)) q) (member_value_at version t) from to k after r (true_is t q m) (λ v s e. refl)
      (map_visits takes fails (λ ps. true_with ps) true_events member_events true_at q from to k after r (λ ps. refl) h)

  abbrev bare_true : Reader RawParameters
  bare_true = led (bare_item (boolean true) ∷ []) (parameters_at version)

  abbrev bare_true_events : RawParameters → List TreeEvent
  bare_true_events ps = bare_item (boolean true) ∷ parameters_events ps

  pub true_begin_fails : (t q : List ℕ) (from to : S) (k : Parser × Global) (after : Cursor) (error : ParseError E)
      → TakesIf (byte equals_sign) false t q → IsOfVisitor (fails from begins_item) error
      → VisitsAnswer takes fails member_events k after from to (Err error) (member_value_at version t)
  true_begin_fails t q from to k after error m h = as_true t q from to k after
      (Err error) m (led_fails takes fails begins_item bare_true_events bare_true q from to k after error h)

  pub true_bare_fails : (t q : List ℕ) (from middle to : S) (k : Parser
      × Global) (after : Cursor) (error : ParseError E) → TakesIf (byte equals_sign) false t q
      → takes from begins_item middle → IsOfVisitor (fails middle (bare_item (boolean true))) error
      → VisitsAnswer takes fails member_events k after from to (Err error) (member_value_at version t)
  true_bare_fails t q from middle to k after error m taken h = as_true t q from to k after
      (Err error) m (led_visits takes fails begins_item bare_true_events bare_true q from middle to k after
      (Err error) taken (led_fails takes fails (bare_item (boolean true)) parameters_events
      (parameters_at version) q middle to k after error h))

  pub true_visits : (t q : List ℕ) (from middle next to : S) (k : Parser
      × Global) (after : Cursor) (r : Result (Unit {0}) (ParseError E)) → TakesIf (byte equals_sign) false t q
      → takes from begins_item middle → takes middle (bare_item (boolean true)) next
      → VisitsAnswer takes fails parameters_events k after next to r (parameters_at version q)
      → VisitsAnswer takes fails member_events k after from to r (member_value_at version t)
  true_visits t q from middle next to k after r m taken bare h = as_true t q from to k after r m
      (led_visits takes fails begins_item bare_true_events bare_true q from middle to k after r taken
      (led_visits takes fails (bare_item (boolean true)) parameters_events
      (parameters_at version) q middle next to k after r bare h))

  -- ---- the key

  pub key_fails : (t : List ℕ) (k : Parser × Global) (e : Error) (from : S) → IsErrorOf (kept_input k) e (key_at t)
      → IsErrorOf (kept_input k) e (keyed_at version t) × TookAll takes keyed_events e (keyed_at version t) from from
  unfolding keyed_at
  key_fails t k e from h = took_part _ (λ _. []) _ _ _ _ _ _ _ _ _ refl (took_none _ _ _ _ _ _ (key_quiet _) h)

  pub keyed_fails : (t q key : List ℕ) (from to : S) (k : Parser × Global) (after : Cursor) (error : ParseError E)
      → key_at t ≡ Ok (key, q) → IsOfVisitor (fails from (keyed_entry key)) error
      → VisitsAnswer takes fails keyed_events k after from to (Err error) (keyed_at version t)
  unfolding keyed_at
  keyed_fails t q key from to k after error read h = of_visitor _ _ _ k after _ _ _ _ _ h
      (λ fault failed. record {
        before = [];
        e = keyed_entry key;
        after = visited after_key (pair_at version key q);
        s = from;
        all = visited_then _ _ _ _ _ _ _ _ read (λ w r e. pair_events _ _ _ _ _ e);
        taken = refl;
        failed = failed;
      })

  pub keyed_visits : (t q key : List ℕ) (from middle to : S) (k : Parser × Global) (after : Cursor)
      (r : Result (Unit {0}) (ParseError E)) → key_at t ≡ Ok (key, q) → takes from (keyed_entry key) middle
      → VisitsAnswer takes fails member_events k after middle to r (member_value_at version q)
      → VisitsAnswer takes fails keyed_events k after from to r (keyed_at version t)
  unfolding keyed_at
  keyed_visits t q key from middle to k after r read taken h = then_visits takes fails key_at
      (pair_at version) (λ key. keyed_entry key ∷ []) keyed_events after_key t q key from middle to k after r read
      (middle, taken, refl) (λ w r e. pair_events version key q w r e) (map_visits takes fails
      (λ m. (key, m)) member_events after_key (member_value_at version) q middle to k after r (λ m. refl) h)
