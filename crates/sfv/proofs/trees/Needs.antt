-- Texts for whose item memory may be needed.
use Rattle.std.proofs.Common.{eqb-true, ◌≡◌, ℕ, Bool, true, false, List, [], ◌∷◌, ◌++◌, Ok, take, refl, sym, subst}
use Rattle.std.proofs.{Common.{IsTrue, Contains, take-append-drop}, lemmas.List.Elements.Contains-append_right}
use Rattle.sfv_spec.{specs.Classes.is_token_start, proofs.Marks.{double_quote, percent_sign}}
use Rattle.sfv_model.specs.{Bare.token_at, Reader.{byte, branch, fail}}
use Rattle.sfv.specs.{Field.{BareValue, item_field}, Memory.may_need_memory, declared.parser.cursor.Cursor.Cursor}
use Rattle.sfv.{specs.parser.Cursor.{MayNeedMemory, input, rest, NextIs}, proofs.Memory.first_in}

-- the next byte is in the input
next_needs : (class : ℕ → Bool) → ((b : ℕ) → class b ≡ true → IsTrue (may_need_memory item_field b)) → (c : Cursor)
    → NextIs class true (rest c) → MayNeedMemory item_field (input c)
next_needs class may c h =
    let here : Contains (rest c) h.0 = subst (λ (t : List ℕ). Contains t h.0) (sym h.2) (first_in _ _) in
    let there : Contains (take c.index (input c) ++ rest c) h.0 = Contains-append_right _ _ _ here in
    (h.0, subst (λ (t : List ℕ). Contains t h.0) (take-append-drop c.index (input c)) there, may h.0 h.3)

-- the same for one byte
one_needs : (x : ℕ) → may_need_memory item_field x ≡ true → (b : ℕ) → byte x b ≡ true
    → IsTrue (may_need_memory item_field b)
one_needs x may b e = subst (λ (c : ℕ). IsTrue (may_need_memory item_field c)) (sym (eqb-true b x e)) may

pub quote_next : (c : Cursor) → NextIs (byte double_quote) true (rest c) → MayNeedMemory item_field (input c)
quote_next = next_needs (byte double_quote) (one_needs double_quote refl)

pub percent_next : (c : Cursor) → NextIs (byte percent_sign) true (rest c) → MayNeedMemory item_field (input c)
percent_next = next_needs (byte percent_sign) (one_needs percent_sign refl)

token_first : (t : List ℕ) (x : BareValue × List ℕ) → token_at t ≡ Ok x → NextIs is_token_start true t
unfolding token_at branch fail
token_first [] x h = absurd cc
token_first (c ∷ t) x h = go (is_token_start c) refl
  where
    go : (b : Bool) → is_token_start c ≡ b → NextIs is_token_start true (c ∷ t)
    go true e = (c, t, refl, e)
    go false e = absurd (let none = rw e at h in cc)

pub token_next : (c : Cursor) (x : BareValue × List ℕ) → token_at (rest c) ≡ Ok x → MayNeedMemory item_field (input c)
token_next c x h = next_needs is_token_start (λ b e. rw e refl) c (token_first (rest c) x h)
