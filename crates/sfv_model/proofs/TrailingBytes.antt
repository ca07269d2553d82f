-- The faults of bare items have kinds of their own, and that something stands after a whole field is the fault of
-- no reader, but of the ending alone.
use Rattle.std.proofs.Common.{◌≡◌, ℕ, zero, suc, Bool, true, false, cond, List, [], ◌∷◌, ◌++◌, Option, Some, length}
use Rattle.std.proofs.Common.{None, Ok, Err, refl, ap, subst, ◌∙◌, inl, inr}
use Rattle.std.{specs.Prelude.⊤, proofs.lemmas.Bool.cases_Bool}
use Rattle.sfv_spec.specs.Classes.{is_key_start, is_key_inner}
use Rattle.sfv_spec.specs.{Events.{TreeEvent, events}, Grammar.IsFieldText, Values.RawField}
use Rattle.sfv_model.specs.Bare.{sign_at, long_at, decimal_at, fraction_at, point_at, whole_at, number_at, boolean_at}
use Rattle.sfv_model.specs.Bare.{token_at, date_at, quoted_at, bare_at}
use Rattle.sfv_model.specs.{Claims.IsBytesFault, Content.bytes_at, Fields.{whole_field_at, ending, read_field}}
use Rattle.sfv_model.specs.Items.{key_at, value_at, parameter_at, parameters_at, item_at}
use Rattle.sfv_model.specs.{Judgements.Reached, Quoted.{string_at, display_at, StringStops, IsDisplayFault}}
use Rattle.sfv_model.specs.Reader.{Fault, Answer, Reader, at_reach, and_then, give, fail, ruled, ◌>>=◌, bind, branch}
use Rattle.sfv_model.specs.Reader.{ahead, back, up_to, span, led, go_on, many_within, many}
use Rattle.sfv_model.proofs.Types.{FieldKind, Version, Rfc8941, Rfc9651, ErrorKind, TrailingCharactersAfterMember}
use Rattle.sfv_model.proofs.Types.{TrailingComma, TrailingCharactersAfterParsedValue, ExpectedInnerListDelimiter}
use Rattle.sfv_model.proofs.Types.{UnterminatedInnerList, ExpectedStartOfKey}
use Rattle.sfv_model.proofs.{complete.Combinators.bind_complete, faults.ByteSequences.bytes_fault}
use Rattle.sfv_model.proofs.faults.Combinators.{Rules, Rules-give, Rules-steady, Rules-led, Rules-branch, Rules-ahead}
use Rattle.sfv_model.proofs.faults.{Combinators.{Rules-back, fault_at, fail_at}, Quoted.{string_fault, display_fault}}
use Rattle.sfv_model.proofs.places.Calls.{Value, Leaf, bare, key, leaf_at, like_self}
use Rattle.sfv_model.proofs.places.CallsOfReaders.{Ever, walk-field}
use Rattle.sfv_model.proofs.places.FaultsOfCalls.{faulty, Met, Elsewhere, Found, called, elsewhere}
use Rattle.sfv_model.proofs.sound.{Combinators.{Somewhere, Steady-span}, Fields.{FieldGoes, Sound-field}}

-- any kind but these
abbrev pub IsOther : ErrorKind → Type 0
IsOther TrailingCharactersAfterMember = ⊥
IsOther TrailingComma = ⊥
IsOther TrailingCharactersAfterParsedValue = ⊥
IsOther ExpectedInnerListDelimiter = ⊥
IsOther UnterminatedInnerList = ⊥
IsOther _ = ⊤

-- no fault of a reader is of these kinds
abbrev pub Shuns : {A : Type 0} → Reader A → Type 0
Shuns f = Rules f (λ _ e. IsOther e.kind)

-- ---- the combinators

pub Shuns-give : {A : Type 0} (v : A) → Shuns (give v)
Shuns-give v = Rules-give v _

pub Shuns-fail : {A : Type 0} (k : ErrorKind) → IsOther k → Shuns {A = A} (fail k)
Shuns-fail {A} k h = record { rules = λ t e i. fail_at A k (λ _ e. IsOther e.kind) t e i h }

pub Shuns-ruled : {A : Type 0} (k : ErrorKind) → IsOther k → Shuns {A = A} (ruled k)
unfolding ruled
Shuns-ruled {A} k h = record { rules = λ t e i. fault_at {A = A} (λ _ e. IsOther e.kind) t _ _ _ refl h i }

pub Shuns-led : {A : Type 0} (es : List TreeEvent) (f : Reader A) → Shuns f → Shuns (led es f)
Shuns-led es f h = Rules-led es f _ h

bind_on : {A B : Type 0} (g : A → Reader B) (a : Answer A) (e : Fault) → ((x : Fault) → a ≡ Err x → IsOther x.kind)
    → ((v : A) → Shuns (g v)) → and_then a g ≡ Err e → IsOther e.kind
bind_on g (Ok x) e h k i = (k x.0).rules x.1 e i
bind_on g (Err x) e h k i = let same : x ≡ e = cc in rw (← same) (h x refl)

pub Shuns-bind : {A B : Type 0} (f : Reader A) (g : A → Reader B) → Shuns f → ((v : A) → Shuns (g v)) → Shuns (f >>= g)
unfolding bind
Shuns-bind f g h k = record { rules = λ t e i. bind_on g (f t) e (λ x j. h.rules t x j) k i }

pub Shuns-cond : {A : Type 0} (b : Bool) (x y : Reader A) → Shuns x → Shuns y → Shuns (cond b x y)
Shuns-cond true x y h k = h
Shuns-cond false x y h k = k

pub Shuns-branch : {A : Type 0} (class : ℕ → Bool) (taken : ℕ → Reader A) (other : Reader A)
    → ((c : ℕ) → Shuns (taken c)) → Shuns other → Shuns (branch class taken other)
Shuns-branch class taken other h k = Rules-branch class taken other _ (λ c _. h c) k

pub Shuns-ahead : {A : Type 0} (class : ℕ → Bool) (taken other : Reader A) → Shuns taken → Shuns other
    → Shuns (ahead class taken other)
Shuns-ahead class taken other h k = Rules-ahead class taken other _ (λ c r e _ i. h.rules (c ∷ r) e i)
    (λ c r e _ i. k.rules (c ∷ r) e i) (λ e i. k.rules [] e i)

pub Shuns-back : {A : Type 0} (k : ErrorKind) (f : Reader (Option A)) → IsOther k → Shuns f → Shuns (back k f)
Shuns-back k f o h = Rules-back k f _ (λ _ _ _. o) h

pub Shuns-up_to : (class : ℕ → Bool) (n : ℕ) → Shuns (up_to class n)
unfolding up_to
Shuns-up_to class zero = Shuns-give []
Shuns-up_to class (suc n) = Shuns-branch _ _ _ (λ c. Shuns-bind _ _ (Shuns-up_to class n) (λ cs. Shuns-give _))
    (Shuns-give _)

pub Shuns-span : (class : ℕ → Bool) → Shuns (span class)
Shuns-span class = Rules-steady (span class) _ _ (Steady-span class)

pub Shuns-many : {A : Type 0} (parts : A → List TreeEvent) (step : Reader (Option A)) → Shuns step
    → Shuns (many parts step)
unfolding many many_within
Shuns-many {A} parts step h = record { rules = λ t e i. (within (suc (length t))).rules t e i }
  where
    next : (more : Reader (List A)) → Shuns more → (o : Option A) → Shuns (go_on parts more o)
    next more k None = Shuns-give []
    next more k (Some v) = Shuns-led (parts v) _ (Shuns-bind more _ k (λ vs. Shuns-give (v ∷ vs)))

    within : (n : ℕ) → Shuns (many_within parts n step)
    within zero = Shuns-ruled _ tt
    within (suc n) = Shuns-bind step _ h (next _ (within n))

-- the rules by which a reader is seen to have no such fault
pub ruleset shuns_rules = (
  Shuns-give,
  Shuns-fail,
  Shuns-ruled,
  Shuns-bind,
  Shuns-led,
  Shuns-many,
  Shuns-branch,
  Shuns-ahead,
  Shuns-cond,
  Shuns-back,
  Shuns-up_to,
  Shuns-span,
)

-- ---- the readers

string_kind : (k : ErrorKind) (left there : List ℕ) → StringStops k left there → IsOther k
string_kind TrailingCharactersAfterMember left there h = h
string_kind TrailingComma left there h = h
string_kind TrailingCharactersAfterParsedValue left there h = h
string_kind ExpectedInnerListDelimiter left there h = h
string_kind UnterminatedInnerList left there h = h
string_kind _ left there h = tt

display_kind : (k : ErrorKind) (t there : List ℕ) → IsDisplayFault t k there → IsOther k
display_kind TrailingCharactersAfterMember t there h = h.ends
display_kind TrailingComma t there h = h.ends
display_kind TrailingCharactersAfterParsedValue t there h = h.ends
display_kind ExpectedInnerListDelimiter t there h = h.ends
display_kind UnterminatedInnerList t there h = h.ends
display_kind _ t there h = tt

pub Shuns-string : Shuns string_at
Shuns-string = record { rules = λ t e i. let h = (string_fault t e i).0 in string_kind e.kind h.left e.rest h.ends }

pub Shuns-display : Shuns display_at
Shuns-display = record { rules = λ t e i. display_kind e.kind t e.rest (display_fault t e i).0 }

bytes_kind : (t : List ℕ) (e : Fault) → IsBytesFault t e → IsOther e.kind
bytes_kind t e (inl h) = rw h.1 tt
bytes_kind t e (inr h) = rw h.5 tt

pub Shuns-bytes : Shuns bytes_at
Shuns-bytes = record { rules = λ t e i. bytes_kind t e (bytes_fault t e i) }

pub Shuns-number : (dated : Bool) → Shuns (number_at dated)
unfolding number_at sign_at whole_at point_at fraction_at decimal_at long_at
Shuns-number dated = search shuns_rules depth 40

pub Shuns-date : (version : Version) → Shuns (date_at version)
unfolding date_at
Shuns-date Rfc8941 = search shuns_rules depth 40
Shuns-date Rfc9651 = search (shuns_rules, Shuns-number) depth 40

pub Shuns-quoted : (version : Version) → Shuns (quoted_at version)
unfolding quoted_at
Shuns-quoted Rfc8941 = search shuns_rules depth 40
Shuns-quoted Rfc9651 = search (shuns_rules, Shuns-display) depth 40

pub Shuns-bare : (version : Version) → Shuns (bare_at version)
unfolding bare_at boolean_at token_at
Shuns-bare version = search (shuns_rules, Shuns-number, Shuns-string, Shuns-bytes, Shuns-date, Shuns-quoted) depth 40

pub Shuns-key : Shuns key_at
unfolding key_at
Shuns-key = search shuns_rules depth 40

pub Shuns-parameters : (version : Version) → Shuns (parameters_at version)
unfolding parameters_at parameter_at value_at
Shuns-parameters version = search (shuns_rules, Shuns-key, Shuns-bare) depth 40

pub Shuns-item : (version : Version) → Shuns (item_at version)
unfolding item_at
Shuns-item version = search (shuns_rules, Shuns-bare, Shuns-parameters) depth 40

-- a fault of a key stands at its start
pub key_fault : (t : List ℕ) (e : Fault) → key_at t ≡ Err e → at_reach ExpectedStartOfKey t ≡ e
unfolding key_at fail branch give
key_fault [] e i = cc
key_fault (c ∷ r) e i = elim (cases_Bool (is_key_start c)) [
  | inl y ↦
      let m = (Steady-span is_key_inner).steady r in
      let read = bind_complete (span is_key_inner) (λ cs. give (c ∷ cs)) r m.2 m.1 m.3 in
      let j = rw (y, read) at i in absurd cc
  | inr n ↦ let j = rw n at i in cc
]

-- ---- whole fields

-- where a fault of the readers of a field comes from
pub comes_from : (version : Version) (kind : FieldKind) (t : List ℕ) (x : Fault) → whole_field_at version kind t ≡ Err x
    → Found version (faulty x) (whole_field_at version kind) Ever t
comes_from version kind t x i = (walk-field version (faulty x) kind).walk t (rw i (like_self x))

Shuns-leaf : (version : Version) (leaf : Leaf) → Shuns (leaf_at version leaf)
Shuns-leaf version bare = Shuns-bare version
Shuns-leaf version key = Shuns-key

-- it is another one than that something stands after the field
of_no_field : (version : Version) (t : List ℕ) (leaf : Leaf) (e : Fault)
    → Met (faulty e) t (leaf_at version leaf t) → ¬ (e.kind ≡ TrailingCharactersAfterParsedValue)
of_no_field version t leaf e m k = on (leaf_at version leaf t) refl m
  where
    on : (a : Answer (Value leaf)) → leaf_at version leaf t ≡ a → Met (faulty e) t a → ⊥
    on (Ok x) i m = m
    on (Err x) i m = subst IsOther (m.kind ∙ k) ((Shuns-leaf version leaf).rules t x i)

read_otherwise : (version : Version) (kind : FieldKind) (t : List ℕ) (e : Fault) → whole_field_at version kind t ≡ Err e
    → ¬ (e.kind ≡ TrailingCharactersAfterParsedValue)
read_otherwise version kind t e i k = on (comes_from version kind t e i)
  where
    on : Found version (faulty e) (whole_field_at version kind) Ever t → ⊥
    on (called leaf before s parts c some m) = of_no_field version s leaf e m k
    on (elsewhere o) = subst (λ k. Elsewhere k e.exact) k o

-- something stands after a field: this is what was read in front of it
pub record ReadBefore (version : Version) (kind : FieldKind) (t rest : List ℕ) : Type 0 where
  pub raw : RawField kind
  pub front : List ℕ
  pub text : t ≡ front ++ rest
  pub means : IsFieldText version kind raw front
  pub read : whole_field_at version kind t ≡ Ok (raw, rest)

pub read_before : (version : Version) (kind : FieldKind) (t : List ℕ) (f : Fault) → read_field version kind t ≡ Err f
    → f.kind ≡ TrailingCharactersAfterParsedValue → ReadBefore version kind t f.rest
unfolding read_field
read_before version kind t f e k = on (whole_field_at version _ t) refl ((Sound-field _ _).sound t) e
  where
    on : (a : Answer (RawField kind)) → whole_field_at version kind t ≡ a
        → Reached (IsFieldText version kind) (FieldGoes version kind) (Somewhere (FieldGoes version kind)) t a
        → ending (events kind) a ≡ Err f → ReadBefore version kind t f.rest
    on (Ok (v, [])) i h e = absurd cc
    on (Ok (v, c ∷ r)) i h e =
        let rest : c ∷ r ≡ f.rest = cc in
        rw (← rest) (record { raw = v; front = h.0; text = h.1; means = h.2; read = i })
    on (Err x) i h e = let same : x ≡ f = cc in
        absurd (read_otherwise version kind t x i (ap (λ (x : Fault). x.kind) same ∙ k))
