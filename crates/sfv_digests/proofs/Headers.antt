-- The verification by a header map is the one by the text of the field.
use Rattle.std.proofs.Common.{◌≡◌, ℕ, ◌<◌, List, Option, Some, Result, Ok, Err, length, refl, sym, ap, subst, ◌∙◌}
use Rattle.std.{proofs.Common.{option_map, IfOk}, specs.Cow.cow_slice_items}
use Rattle.std.specs.declared.{alloc.Global.Global, borrow.CowSlice.CowSlice}
use Rattle.http_header.specs.{FieldValue.FieldValue, HeaderMap.Entries, Token.lowercase}
use Rattle.sfv_headers.specs.Lines.{lines_in, text_in}
use Rattle.sfv_digests.specs.Verifying.{name_of, IsVerified, IsVerifiedIn}
use Rattle.sfv_digests.specs.declared.{DigestField.DigestField, Verification.Verification}
use Rattle.sfv_digests.specs.declared.DigestField.TheVariants as fields
use Rattle.sfv_digests.specs.declared.Verification.TheVariants as results

-- a name is in lower case
same_name : (field : DigestField) → lowercase (name_of field) ≡ name_of field
same_name fields.ContentDigest = refl
same_name fields.ReprDigest = refl

pub named_text : (field : DigestField) (headers : Entries FieldValue) (name : List ℕ) (found : Option (CowSlice ℕ Global))
    (text : CowSlice ℕ Global) → name ≡ name_of field → option_map cow_slice_items found ≡ text_in headers (lowercase name)
    → found ≡ Some text → text_in headers (name_of field) ≡ Some (cow_slice_items text)
named_text field headers name found text is has some = ap (λ (n : List ℕ). text_in headers n) (sym (same_name field))
    ∙ ap (λ (n : List ℕ). text_in headers (lowercase n)) (sym is) ∙ sym has
    ∙ ap (λ (o : Option (CowSlice ℕ Global)). option_map cow_slice_items o) some

pub verified_in : {E : Type 0} (content : List ℕ) (headers : Entries FieldValue) (name text : List ℕ)
    (r : Result Verification E) → text_in headers name ≡ Some text → IfOk r (IsVerified content text)
    → IfOk r (IsVerifiedIn content headers name)
verified_in content headers name text (Ok results.Matches) some h = (text, some, h)
verified_in content headers name text (Ok (results.Differs a)) some h = (text, some, h)
verified_in content headers name text (Ok results.NoKnownAlgorithm) some h = (text, some, h)
verified_in content headers name text (Ok results.NoField) some h = absurd h.2
verified_in content headers name text (Err e) some h = tt

-- two lines of a field whose name is in lower case
pub named_lines : (field : DigestField) (headers : Entries FieldValue) (name : List ℕ) → name ≡ name_of field
    → 1 < length (lines_in headers (lowercase name)) → 1 < length (lines_in headers (name_of field))
named_lines field headers name is h = subst (λ n. 1 < length (lines_in headers n)) (ap lowercase is ∙ same_name field) h
