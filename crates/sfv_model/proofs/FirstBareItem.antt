-- A bare item that stands first in the text of an item is read, whatever follows where it ends.
use Rattle.std.proofs.Common.{◌≡◌, List, [], ◌++◌, length, take, drop, Result, Ok, ℕ, ◌<◌, ◌+◌, refl, sym, ap, subst}
use Rattle.std.proofs.Common.{◌∙◌, arith, append_assoc, append-nil, take_at, take-append-drop, length-append}
use Rattle.std.proofs.Common.{length-take-le}
use Rattle.sfv_spec.specs.{Grammar.{Spaces, IsBareText, IsEnded, BeginsWithLongest}, Texts.{IsLongestBeginning, ◌⨾◌}}
use Rattle.sfv_spec.{specs.Values.BareValue, specs.declared.version.Version.Version, proofs.Marks.is_space}
use Rattle.sfv_model.specs.{Bare.bare_at, Claims.BeginsWithBare, Items.item_of, Reader.{Fault, span}}
use Rattle.sfv_model.proofs.LongestBareItem.{ended_apart, bare_is_exact}
use Rattle.sfv_model.proofs.complete.{Bare.bare_complete, Combinators.span_complete, Items.item_no}

-- after spaces, a text of this bare value, and a bare item may end there
abbrev pub BeginsWithComplete : Version → BareValue → List ℕ → Type 0
BeginsWithComplete version value = Spaces ⨾ IsBareText version value ⨾ IsEnded

-- the spaces before a bare item
spaces_read : (version : Version) (value : BareValue) (t spaces front rest : List ℕ) → t ≡ spaces ++ front ++ rest
    → Spaces spaces → IsBareText version value front → span is_space t ≡ Ok (spaces, front ++ rest)
spaces_read version value t spaces front rest text blank means = ap (span is_space)
    (text ∙ append_assoc spaces front rest) ∙ span_complete _ _ _ blank
    (item_no _ _ (item_of value []) _ _ refl (record {
      front = front;
      back = [];
      text = sym (append-nil front);
      first = means;
      second = record { pieces = []; text = refl; each = tt };
    }))

pub first_bare : (version : Version) (value : BareValue) (t : List ℕ) (h : BeginsWithComplete version value t)
    → (span is_space t ≡ Ok (h.front, h.back)) × (bare_at version h.back ≡ Ok (value, h.second.back))
first_bare version value t h =
    let k = h.second in (
      spaces_read version value t h.front k.front k.back (h.text ∙ ap (λ (l : List ℕ). h.front ++ l) k.text ∙ sym (append_assoc h.front k.front k.back)) h.first
          k.first ∙ ap (λ (l : List ℕ). Ok (h.front, l)) (sym k.text),
      ap (bare_at version) k.text ∙ bare_complete version value k.front k.back k.first (ended_apart k.back k.second),
    )

-- and what is read is the longest text of one
pub longest_read : (version : Version) (t : List ℕ) (value : BareValue) (rest : List ℕ)
    → (h : BeginsWithBare version t value rest)
    → IsLongestBeginning (λ d. (any : BareValue) × IsBareText version any d) (h.front ++ rest) (length h.front)
longest_read version t value rest h = record {
  within = omega (arith, length-append h.front rest);
  holds = (value, rw (take_at h.front rest (length h.front) refl) h.means);
  longest = λ m more within w. let some = w in
      let short = h.longest (take m (h.front ++ rest)) (drop m (h.front ++ rest))
      (h.text ∙ sym (take-append-drop m (h.front ++ rest))) some in
      omega (arith, more, short, length-take-le m (h.front ++ rest) within);
}

-- a complete bare item is the longest one
pub complete_is_longest : (version : Version) (value other : BareValue) (t : List ℕ) → BeginsWithComplete version value t
    → BeginsWithLongest version other t → other ≡ value
complete_is_longest version value other t h l =
    let read = first_bare version value t h in
    let spaced = spaces_read version other t l.spaces l.front l.rest l.text l.blank l.means in
    let here : h.back ≡ l.front ++ l.rest = (let both : Result (List ℕ × List ℕ) Fault = Ok (h.front, h.back) in
    let same : both ≡ Ok (l.spaces, l.front ++ l.rest) = sym read.0 ∙ spaced in
    let parts : ◌≡◌ {A = List ℕ × List ℕ} (h.front, h.back) (l.spaces, l.front ++ l.rest) = cc in
    ap (λ (p : List ℕ × List ℕ). p.1) parts) in
    let b = bare_is_exact.0 version h.back value h.second.back read.1 in
    let no_longer = b.longest l.front l.rest here (other, l.means) in
    let whole : l.front ++ l.rest ≡ b.front ++ h.second.back = sym here ∙ b.text in
    let size : length (l.front ++ l.rest) ≡ length b.front + length (h.second.back) =
    ap (length {A = ℕ}) whole ∙ length-append b.front h.second.back in
    let no_shorter : ¬ (length l.front < length b.front) = λ less. l.longest.longest (length b.front) less
    (omega (arith, size)) (value, rw (whole, take_at b.front h.second.back (length b.front) refl) b.means) in
    let n : length l.front ≡ length b.front = omega (arith, no_longer, no_shorter) in
    let same : l.front ≡ b.front = sym (take_at l.front l.rest (length l.front) refl)
    ∙ ap (take (length l.front)) whole ∙ take_at b.front h.second.back (length l.front) (sym n) in
    b.only other (subst (IsBareText version other) same l.means)
