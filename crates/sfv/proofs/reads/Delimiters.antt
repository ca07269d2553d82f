-- What stands between two items of an inner list, and between two members, by what the code found out.
use Rattle.std.proofs.Common.{◌≡◌, ℕ, Bool, true, false, not, List, [], ◌∷◌, Option, Some, None, Ok, Err, refl, sym, ap}
use Rattle.std.proofs.Common.{◌∙◌, is_some, true≢false}
use Rattle.sfv_spec.specs.Events.{inner_item_events}
use Rattle.sfv_spec.specs.declared.error_kind.ErrorKind.TheVariants.{TrailingComma, TrailingCharactersAfterMember}
use Rattle.sfv_spec.specs.declared.error_kind.ErrorKind.TheVariants.{ExpectedInnerListDelimiter, UnterminatedInnerList}
use Rattle.sfv_spec.proofs.Marks.{right_parenthesis, comma, is_space, is_space_or_tab}
use Rattle.sfv_model.specs.Fields.{comma_at, next_at, members_at}
use Rattle.sfv_model.specs.Members.{inner_item_at, next_item_at, inner_items_at}
use Rattle.sfv_model.specs.Reader.{Answer, Reader, first, byte, any, give, fail, back, ahead, branch, and_then, bind}
use Rattle.sfv_model.{specs.Reader.{span, led, many, one_and_more, ◌>>=◌}, proofs.complete.Combinators.bind_complete}
use Rattle.sfv.specs.Field.{RawItem, Version, TreeEvent}
use Rattle.sfv.specs.parser.{Cursor.{located, TakesIf}, Members.{item_delimiter_at, member_delimiter_at}}
use Rattle.sfv.proofs.reads.Steps.{branch_true, branch_false}

-- a run is read wherever it is wanted
pub span_total : (class : ℕ → Bool) (t : List ℕ) → (s : List ℕ) × (r : List ℕ) × (span class t ≡ Ok (s, r))
unfolding span give
span_total class [] = ([], [], refl)
span_total class (c ∷ t) = on (span_total class t) (class c) refl
  where
    on : ((s : List ℕ) × (r : List ℕ) × (span class t ≡ Ok (s, r))) → (b : Bool) → class c ≡ b
        → (s : List ℕ) × (r : List ℕ) × (span class (c ∷ t) ≡ Ok (s, r))
    on h true e = (c ∷ h.0, h.1, rw (e, h.2) refl)
    on h false e = ([], c ∷ t, rw e refl)

-- one more, if one is wanted
abbrev pub one_if : {A : Type 0} → Reader A → Bool → Reader (Option A)
one_if one true = one >>= λ v. give (Some v)
one_if one false = give None

-- the first, and those after it
unfoldable pub first_of : {A : Type 0} → (A → List TreeEvent) → Reader A → Reader (Option A) → Reader (List A)
first_of parts one next = one >>= λ v. led (parts v) (many parts next >>= λ vs. give (v ∷ vs))

-- ---- items of an inner list

pub parted_item : (b : Bool) (t r s q w : List ℕ) → TakesIf is_space true t r → span is_space r ≡ Ok (s, q)
    → TakesIf (byte right_parenthesis) b q w → item_delimiter_at t ≡ Ok (not b, w)
unfolding item_delimiter_at give
parted_item true t r s q w sp e m = branch_true is_space _ _ t r sp ∙ bind_complete (span is_space) _ r q s e
    ∙ branch_true (byte right_parenthesis) (λ _. give false) (give true) q w m
parted_item false t r s q w sp e m = branch_true is_space _ _ t r sp ∙ bind_complete (span is_space) _ r q s e
    ∙ branch_false (byte right_parenthesis) (λ _. give false) (give true) q w m

pub closed_item : (t r q : List ℕ) → TakesIf is_space false t r → TakesIf (byte right_parenthesis) true r q
    → item_delimiter_at t ≡ Ok (false, q)
unfolding item_delimiter_at give
closed_item t r q sp m = branch_false is_space _ _ t r sp ∙ branch_true (byte right_parenthesis) _ _ r q m

no_item_here : (t r q : List ℕ) → TakesIf is_space false t r → TakesIf (byte right_parenthesis) false r q
    → item_delimiter_at t ≡ ahead any (fail ExpectedInnerListDelimiter) (fail UnterminatedInnerList) q
unfolding item_delimiter_at
no_item_here t r q sp m = branch_false is_space _ _ t r sp ∙ branch_false (byte right_parenthesis) _ _ r q m

pub undelimited_item : (t r q : List ℕ) → TakesIf is_space false t r → TakesIf (byte right_parenthesis) false r q
    → is_some (first q) ≡ true → located (item_delimiter_at t) ≡ Err (ExpectedInnerListDelimiter, q)
unfolding ahead fail
undelimited_item t r q sp m h = ap located (no_item_here t r q sp m) ∙ on q h
  where
    on : (q : List ℕ) → is_some (first q) ≡ true → located {A =
        Bool} (ahead any (fail ExpectedInnerListDelimiter) (fail UnterminatedInnerList) q)
        ≡ Err (ExpectedInnerListDelimiter, q)
    on [] h = absurd cc
    on (c ∷ q) h = refl

pub unended_item : (t r q : List ℕ) → TakesIf is_space false t r → TakesIf (byte right_parenthesis) false r q
    → is_some (first q) ≡ false → located (item_delimiter_at t) ≡ Err (UnterminatedInnerList, q)
unfolding ahead fail
unended_item t r q sp m h = ap located (no_item_here t r q sp m) ∙ on q h
  where
    on : (q : List ℕ) → is_some (first q) ≡ false → located {A =
        Bool} (ahead any (fail ExpectedInnerListDelimiter) (fail UnterminatedInnerList) q)
        ≡ Err (UnterminatedInnerList, q)
    on [] h = refl
    on (c ∷ q) h = absurd cc

-- an item after its delimiter is the next one
pub next_item_is : (version : Version) (t : List ℕ)
    → next_item_at version t ≡ (item_delimiter_at >>= one_if (inner_item_at version)) t
unfolding next_item_at item_delimiter_at bind branch ahead give fail
next_item_is version [] = refl
next_item_is version (c ∷ r) = on (is_space c) refl
  where
    parted : (q : List ℕ) → branch (byte right_parenthesis) (λ _. give None) (one_if (inner_item_at version) true) q
        ≡ and_then (branch (byte right_parenthesis) (λ _. give false) (give true) q) (one_if (inner_item_at version))
    parted [] = refl
    parted (d ∷ q) = here (byte right_parenthesis d) refl
      where
        here : (b : Bool) → byte right_parenthesis d ≡ b
            → branch (byte right_parenthesis) (λ _. give None) (one_if (inner_item_at version) true) (d ∷ q)
            ≡ and_then (branch (byte right_parenthesis) (λ _. give false) (give true) (d ∷ q))
            (one_if (inner_item_at version))
        here true e = rw e refl
        here false e = rw e refl

    closed : (b : Bool) → is_space c ≡ false → byte right_parenthesis c ≡ b
        → next_item_at version (c ∷ r) ≡ (item_delimiter_at >>= one_if (inner_item_at version)) (c ∷ r)
    closed true n e = rw (n, e) refl
    closed false n e = rw (n, e) refl

    on : (b : Bool) → is_space c ≡ b → next_item_at version (c ∷ r)
        ≡ (item_delimiter_at >>= one_if (inner_item_at version)) (c ∷ r)
    on true e = let q = span_total is_space r in rw (e, q.2) (parted q.1)
    on false e = closed (byte right_parenthesis c) e refl

pub items_none : (version : Version) (t : List ℕ) → is_some (first t) ≡ false
    → located (inner_items_at version t) ≡ Err (UnterminatedInnerList, t)
unfolding inner_items_at ahead fail
items_none version [] h = refl
items_none version (c ∷ t) h = absurd cc

-- after the spaces before the first item
abbrev pub items_after : Version → Reader (List RawItem)
items_after version =
    branch (byte right_parenthesis) (λ _. give []) (inner_item_at version
    >>= λ i. led (inner_item_events i) (many inner_item_events (next_item_at version) >>= λ is. give (i ∷ is)))

items_some : (version : Version) (t s q : List ℕ) → is_some (first t) ≡ true → span is_space t ≡ Ok (s, q)
    → inner_items_at version t ≡ items_after version q
unfolding inner_items_at ahead
items_some version [] s q h e = absurd cc
items_some version (c ∷ t) s q h e = bind_complete (span is_space) (λ _. items_after version) (c ∷ t) q s e

pub items_closed : (version : Version) (t s q w : List ℕ) → is_some (first t) ≡ true → span is_space t ≡ Ok (s, q)
    → TakesIf (byte right_parenthesis) true q w → inner_items_at version t ≡ Ok ([], w)
unfolding give
items_closed version t s q w h e m = items_some version t s q h e ∙ branch_true (byte right_parenthesis) _ _ q w m

pub items_first : (version : Version) (t s q w : List ℕ) → is_some (first t) ≡ true → span is_space t ≡ Ok (s, q)
    → TakesIf (byte right_parenthesis) false q w → inner_items_at version t
    ≡ first_of inner_item_events (inner_item_at version) (next_item_at version) w
unfolding first_of
items_first version t s q w h e m = items_some version t s q h e ∙ branch_false (byte right_parenthesis) _ _ q w m

-- ---- members

pub at_end : (q : List ℕ) → is_some (first q) ≡ false → q ≡ []
at_end [] h = refl
at_end (c ∷ q) h = absurd cc

-- after optional whitespace
abbrev at_comma : Reader Bool
at_comma = ahead any (ahead (byte comma) (back TrailingComma comma_at
    >>= λ _. give true) (fail TrailingCharactersAfterMember)) (give false)

member_is : (t s q : List ℕ) → span is_space_or_tab t ≡ Ok (s, q) → member_delimiter_at t ≡ at_comma q
unfolding member_delimiter_at
member_is t s q e = bind_complete (span is_space_or_tab) _ t q s e

pub no_member : (t s q : List ℕ) → span is_space_or_tab t ≡ Ok (s, q) → is_some (first q) ≡ false
    → member_delimiter_at t ≡ Ok (false, q)
unfolding ahead give
no_member t s q e h = member_is t s q e ∙ on q h
  where
    on : (q : List ℕ) → is_some (first q) ≡ false → at_comma q ≡ Ok (false, q)
    on [] h = refl
    on (c ∷ q) h = absurd cc

-- a member after its delimiter, or the end
abbrev wanted : {A : Type 0} → Reader A → Reader (Option A)
wanted one = ahead any (ahead (byte comma) (back TrailingComma comma_at >>= λ _. one
    >>= λ m. give (Some m)) (fail TrailingCharactersAfterMember)) (give None)

-- a member after its delimiter is the next one
pub next_member_is : {A : Type 0} (one : Reader A) (t : List ℕ) → next_at one t ≡ (member_delimiter_at >>= one_if one) t
unfolding next_at member_delimiter_at bind ahead fail give
next_member_is {A} one t = let q = span_total is_space_or_tab t in rw q.2 (on q.1)
  where
    after : (a : Answer (Unit {0})) → and_then a (λ _. one >>= λ m. give (Some m))
        ≡ and_then (and_then a (λ _. give true)) (one_if one)
    after (Ok x) = refl
    after (Err f) = refl

    at : (c : ℕ) (r : List ℕ) (b : Bool) → byte comma c ≡ b
        → wanted one (c ∷ r) ≡ and_then (at_comma (c ∷ r)) (one_if one)
    at c r true e = rw e (after (back TrailingComma comma_at (c ∷ r)))
    at c r false e = rw e refl

    on : (q : List ℕ) → wanted one q ≡ and_then (at_comma q) (one_if one)
    on [] = refl
    on (c ∷ r) = at c r (byte comma c) refl

-- after the spaces before the first member
module _ {A : Type 0} (parts : A → List TreeEvent) (one : Reader A) where
  abbrev after_spaces : Reader (List A)
  after_spaces = ahead any (one_and_more parts one (next_at one)) (give [])

  pub after_none : (q : List ℕ) → is_some (first q) ≡ false → after_spaces q ≡ Ok ([], q)
  unfolding ahead give
  after_none [] h = refl
  after_none (c ∷ q) h = absurd cc

  pub after_some : (q : List ℕ) → is_some (first q) ≡ true → after_spaces q ≡ first_of parts one (next_at one) q
  unfolding ahead first_of
  after_some [] h = absurd cc
  after_some (c ∷ q) h = refl

  pub members_after : (t s q : List ℕ) → span is_space t ≡ Ok (s, q) → members_at parts one t ≡ after_spaces q
  unfolding members_at
  members_after t s q e = bind_complete (span is_space) _ t q s e

  pub members_none : (t s q : List ℕ) → span is_space t ≡ Ok (s, q) → is_some (first q) ≡ false
      → members_at parts one t ≡ Ok ([], q)
  members_none t s q e h = members_after t s q e ∙ after_none q h

  pub members_first : (t s q : List ℕ) → span is_space t ≡ Ok (s, q) → is_some (first q) ≡ true
      → members_at parts one t ≡ first_of parts one (next_at one) q
  members_first t s q e h = members_after t s q e ∙ after_some q h

-- where no member is wanted, the text has ended
pub ends_there : (t r : List ℕ) → member_delimiter_at t ≡ Ok (false, r) → r ≡ []
unfolding ahead fail give bind
ends_there t r e = let q = span_total is_space_or_tab t in on q.1 (sym (member_is t q.0 q.1 q.2) ∙ e)
  where
    never : (a : Answer (Unit {0})) → and_then a (λ _. give true) ≡ Ok (false, r) → r ≡ []
    never (Ok x) e =
        let here : Bool × List ℕ = (true, x.1) in
        let there : Bool × List ℕ = (false, r) in
        let same : here ≡ there = cc in
        absurd (true≢false (ap (λ (p : Bool × List ℕ). p.0) same))
    never (Err f) e = absurd cc

    at : (c : ℕ) (q : List ℕ) (b : Bool) → byte comma c ≡ b → at_comma (c ∷ q) ≡ Ok (false, r) → r ≡ []
    at c q true e h = never (back TrailingComma comma_at (c ∷ q)) (rw e at h)
    at c q false e h = let n = rw e at h in absurd cc

    on : (q : List ℕ) → at_comma q ≡ Ok (false, r) → r ≡ []
    on [] h =
        let here : Bool × List ℕ = (false, []) in
        let there : Bool × List ℕ = (false, r) in
        let same : here ≡ there = cc in
        sym (ap (λ (p : Bool × List ℕ). p.1) same)
    on (c ∷ q) h = at c q (byte comma c) refl h

-- after the comma
abbrev past_comma : Reader Bool
past_comma = back TrailingComma comma_at >>= λ _. give true

comma_met : (q w : List ℕ) → TakesIf (byte comma) true q w → at_comma q ≡ past_comma q
unfolding ahead
comma_met q w m = ap at_comma m.1 ∙ rw m.2 refl ∙ ap past_comma (sym m.1)

pub no_comma : (t s q w : List ℕ) → span is_space_or_tab t ≡ Ok (s, q) → is_some (first q) ≡ true
    → TakesIf (byte comma) false q w → located (member_delimiter_at t) ≡ Err (TrailingCharactersAfterMember, w)
unfolding ahead fail
no_comma t s q w e h m = ap located (member_is t s q e) ∙ on q h m
    ∙ ap (λ (l : List ℕ). Err (TrailingCharactersAfterMember, l)) (sym m.0)
  where
    on : (q : List ℕ) → is_some (first q) ≡ true → TakesIf (byte comma) false q w
        → located (at_comma q) ≡ Err (TrailingCharactersAfterMember, q)
    on [] h m = absurd cc
    on (c ∷ q) h m = rw (m.1.apart c refl) refl

-- whether anything stands after it
abbrev more_or_end : Reader (Option (Unit {0}))
more_or_end = ahead any (give (Some tt)) (give None)

comma_is : (q w s x : List ℕ) → TakesIf (byte comma) true q w → span is_space_or_tab w ≡ Ok (s, x)
    → comma_at q ≡ more_or_end x
unfolding comma_at
comma_is q w s x m e = branch_true (byte comma) _ _ q w m ∙ bind_complete (span is_space_or_tab) _ w x s e

pub comma_last : (t s q w s' x : List ℕ) → span is_space_or_tab t ≡ Ok (s, q) → TakesIf (byte comma) true q w
    → span is_space_or_tab w ≡ Ok (s', x) → is_some (first x) ≡ false
    → located (member_delimiter_at t) ≡ Err (TrailingComma, q)
unfolding back bind ahead give
comma_last t s q w s' x e m k h =
    let none : comma_at q ≡ Ok (None, x) = comma_is q w s' x m k ∙ on x h in
    ap located (member_is t s q e ∙ comma_met q w m) ∙ rw none refl
  where
    on : (x : List ℕ) → is_some (first x) ≡ false → more_or_end x ≡ Ok (None, x)
    on [] h = refl
    on (c ∷ x) h = absurd cc

pub comma_more : (t s q w s' x : List ℕ) → span is_space_or_tab t ≡ Ok (s, q) → TakesIf (byte comma) true q w
    → span is_space_or_tab w ≡ Ok (s', x) → is_some (first x) ≡ true → member_delimiter_at t ≡ Ok (true, x)
unfolding back bind ahead give
comma_more t s q w s' x e m k h =
    let some : comma_at q ≡ Ok (Some tt, x) = comma_is q w s' x m k ∙ on x h in
    member_is t s q e ∙ comma_met q w m ∙ rw some refl
  where
    on : (x : List ℕ) → is_some (first x) ≡ true → more_or_end x ≡ Ok (Some tt, x)
    on [] h = absurd cc
    on (c ∷ x) h = refl
