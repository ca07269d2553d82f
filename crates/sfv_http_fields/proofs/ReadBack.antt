-- The written text parses back to the intermediary.
use Rattle.std.proofs.Common.{refl, sym, ap, ◌∙◌, append_assoc, append-nil, arith, ◌≡◌, ◌≤◌, ◌++◌, ℕ, List, [], true}
use Rattle.std.proofs.Common.{Some, nat_le, pos}
use Rattle.sfv.{specs.TokenText.TokenRef, specs.Values.IsItem, proofs.Callers.{read_back_either, ordered_same}}
use Rattle.sfv_readers.specs.Field.{Version, Rfc8941, list_field, RawMember, integer, Fits, IsParsedAs, canonical}
use Rattle.sfv_readers.specs.Field.{last_of, text_of as token_text}
use Rattle.sfv_http_fields.specs.ProxyStatus.{status_in, last_proxy_of, name_value}
use Rattle.sfv_http_fields.specs.Writing.{written_members, written_proxy, item_of, IsReadAs}
use Rattle.sfv_http_fields.specs.declared.proxy_status.reading.Name.{Name}
use Rattle.sfv_http_fields.specs.declared.proxy_status.reading.Name.TheVariants as names

within : (n : ℕ) → 100 ≤ n → n ≤ 599 → status_in (integer (pos n)) ≡ Some n
within n h k =
    let least : nat_le 100 n ≡ true = grind (arith, h) in
    let most : nat_le n 599 ≡ true = grind (arith, k) in
    rw (least, most) refl

its_proxy : (name : Name) (error : List ℕ) (n : ℕ) → 100 ≤ n → n ≤ 599
    → Some (written_proxy (name_value name) error n) ≡ last_proxy_of (written_members (name_value name) error n)
unfolding last_of
its_proxy (names.String s) error n h k = rw (within n h k) refl
its_proxy (names.Token t) error n h k = rw (within n h k) refl

fits : (name : Name) (error : List ℕ) (n : ℕ) → Fits Rfc8941 list_field (written_members (name_value name) error n)
fits (names.String s) error n = (refl, (refl, (refl, tt)))
fits (names.Token t) error n = (refl, (refl, (refl, tt)))

-- what was written of an intermediary is read as it
pub read_as : (name : Name) (error : TokenRef) (n : ℕ) → 100 ≤ n → n ≤ 599 → IsItem (item_of name error n)
    → IsReadAs name error n
read_as name error n h k is = λ version. (members, read version, its_proxy name (token_text error) n h k)
  where
    members : List RawMember
    members = written_members (name_value name) (token_text error) n

    read : (version : Version) → IsParsedAs version list_field (canonical list_field members) members
    read version = read_back_either version list_field members
        (record { parts = (is, tt); distinct = ordered_same list_field members (refl, tt) }) (fits name (token_text error) n)

-- a text to which a bare item and two parameters were added
pub three_added : (old name p q : List ℕ) → old ++ name ++ p ++ q ≡ old ++ (name ++ (p ++ (q ++ [])))
three_added old name p q = append_assoc (old ++ name) p q ∙ append_assoc old name (p ++ q)
    ∙ ap (λ t. old ++ (name ++ (p ++ t))) (sym (append-nil q))
