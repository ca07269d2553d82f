-- The line of one identifier, and the last line.
use Rattle.std.proofs.Common.{◌≡◌, ℕ, List, ◌++◌, sym, subst, append_assoc, inl, inr, ◌≢◌, Any, Result, Ok, Err, codes}
use Rattle.std.proofs.Common.{MatchResult, IsErrAnd}
use Rattle.sfv.specs.Values.{BareValue, string, RawParameters, RawItem}
use Rattle.sfv_signatures.specs.{Components.UnlessMemory, SignatureBase.{Message, IsChecked, GivesFor, AreSame, Gives}}
use Rattle.sfv_signatures.specs.declared.base_error.BaseErrorKind.{BaseErrorKind}

pub two_parts : (a b c s t : List ℕ) → b ≡ a ++ s → c ≡ b ++ t → c ≡ a ++ (s ++ t)
two_parts a b c s t h k = rw (k, h) (append_assoc a s t)

pub line_parts : (a b c d e i s v f : List ℕ) → b ≡ a ++ i → c ≡ b ++ s → d ≡ c ++ v → e ≡ d ++ f
    → e ≡ a ++ ((i ++ s ++ v) ++ f)
line_parts a b c d e i s v f h k l m = rw (m, l, k, h) (simp append_assoc)

gives_named : (message : Message) (ps : RawParameters) (b : BareValue) (name : List ℕ)
    (r : Result (List ℕ) BaseErrorKind) → b ≡ string name → name ≢ codes "@signature-params"
    → IsChecked (message name ps) r → GivesFor message ps b r
gives_named message ps b name r h k l = subst (λ (b : BareValue). GivesFor message ps b r) (sym h) (inr (k, l))

pub named_value : (message : Message) (before : List RawItem) (i : RawItem) (name v : List ℕ)
    → (Any (AreSame i) before → ⊥) → i.bare ≡ string name → name ≢ codes "@signature-params"
    → IsChecked (message name i.parameters) (Ok v) → Gives message before i (Ok v)
named_value message before i name v new h k l = inr (new, gives_named message i.parameters i.bare name (Ok v) h k l)

pub named_fault : (message : Message) (before : List RawItem) (i : RawItem) (name : List ℕ) (kind : BaseErrorKind)
    → (Any (AreSame i) before → ⊥) → i.bare ≡ string name → name ≢ codes "@signature-params"
    → UnlessMemory (λ kind. IsChecked (message name i.parameters) (Err kind)) kind
    → UnlessMemory (λ kind. Gives message before i (Err kind)) kind
named_fault message before i name kind new h k (inl memory) = inl memory
named_fault message before i name kind new h k (inr l) =
    inr (inr (new, gives_named message i.parameters i.bare name (Err kind) h k l))

-- the error that `?` returns
pub on_error : {T E : Type 0} (r : Result T E) (O : T → Type 0) (R Q : E → Type 0) → IsErrAnd r R
    → ((e : E) → R e → Q e) → MatchResult r O Q
on_error (Ok x) O R Q h f = absurd h
on_error (Err e) O R Q h f = f e h
