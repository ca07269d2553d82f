-- What a part of a reading answers is what the whole does.
use Rattle.std.proofs.Common.{◌≡◌, ℕ, ◌≤◌, List, length, Option, Some, None, Ok, Err, sym, ap, subst, ◌∙◌, drop}
use Rattle.std.proofs.Common.{MatchOption, Result, IsErrAnd}
use Rattle.std.{specs.declared.alloc.Global.Global, proofs.lemmas.Result.err_from_is_err_and}
use Rattle.sfv_model.{specs.Reader.{Answer, Reader, and_then, bind, ◌>>=◌}, proofs.Types.{Version, ErrorKind}}
use Rattle.sfv_base.specs.{Errors.error_of, declared.error.Error.Error}
use Rattle.sfv.specs.{Memory.IsRefusal, declared.parser.Parser.Parser, declared.parser.cursor.Cursor.Cursor}
use Rattle.sfv.specs.parser.Cursor.{kept, kept_input, kept_version, rest, located, IsFaultOf, IsErrorOf, Reads}

-- what `?` returns
pub left_with : {T E : Type 0} {r : Result T E} {e : E} → IsErrAnd r (λ f. f ≡ e) → r ≡ Err e
left_with {r = r} h = let p = err_from_is_err_and r h in p.1 ∙ ap (λ e. Err e) p.2

pub fault_bind : {A B : Type 0} (f : Reader A) (g : A → Reader B) (t : List ℕ) (k : ErrorKind) (r : List ℕ)
    → located (f t) ≡ Err (k, r) → located ((f >>= g) t) ≡ Err (k, r)
unfolding bind
fault_bind {A} {B} f g t k r = on (f t)
  where
    on : (a : Answer A) → located a ≡ Err (k, r) → located (and_then a g) ≡ Err (k, r)
    on (Ok x) h = absurd cc
    on (Err f) h = ap (λ (p : ErrorKind × List ℕ). Err p) cc

-- a cursor that has kept its parser reads the same version
pub kept_reads : {A : Type 0} (f : Version → Reader A) (t : List ℕ) (i j : Parser × Global) → i ≡ j
    → f (kept_version j) t ≡ f (kept_version i) t
kept_reads f t i j same = ap (λ (k : Parser × Global). f (kept_version k) t) (sym same)

-- a reading of a part, after which nothing stands
pub reads_same : {X Y : Type 0} (view : X → Y) (before middle after : Cursor) (r : Result X Error) (f g : Reader Y)
    → kept middle ≡ kept before → g (rest before) ≡ f (rest middle) → Reads view middle after r f
    → Reads view before after r g
reads_same view before middle after (Ok x) f g same eq h = (eq ∙ h.0, h.1 ∙ same)
reads_same view before middle after (Err e) f g same eq h =
    rw eq (subst (λ (k : Parser × Global). IsFaultOf (kept_input k) e (f (rest middle))) same h)

-- the error at the next byte
pub FaultOf-here : {A : Type 0} (k : ErrorKind) (p : Cursor) (i : Parser × Global) (a : Answer A) → kept p ≡ i
    → located a ≡ Err (k, rest p) → IsFaultOf (kept_input i) (error_of k (Some p.index)) a
FaultOf-here k p i a same h = subst (λ (i : Parser × Global). (located a ≡ Err (k, drop p.index (kept_input i)))
    × (p.index ≤ length (kept_input i))) same (h, p.within)

pub ErrorOf-here : {A : Type 0} (k : ErrorKind) (p : Cursor) (i : Parser × Global) (a : Answer A) → kept p ≡ i
    → located a ≡ Err (k, rest p) → IsErrorOf (kept_input i) (error_of k (Some p.index)) a
ErrorOf-here k p i a same h = FaultOf-here k p i a same h

-- a fault of a reading that needs no memory is one of a reading that may
pub ErrorOf-fault : {A : Type 0} (input : List ℕ) (e : Error) (a : Answer A) → IsFaultOf input e a → IsErrorOf input e a
ErrorOf-fault input e a = on e.index
  where
    on : (o : Option ℕ) → MatchOption o ⊥ (λ index. (located a ≡ Err (e.kind, drop index input))
        × (index ≤ length input)) → MatchOption o (IsRefusal input e) (λ index. (located a ≡ Err (e.kind, drop index input)) × (index ≤ length input))
    on None h = absurd h
    on (Some i) h = h

-- the same, so many bytes into an input that was kept
pub ErrorOf-kept : {A : Type 0} (i j : Parser × Global) (e : Error) (n : ℕ) (f : Reader A) → i ≡ j
    → IsFaultOf (kept_input i) e (f (drop n (kept_input i))) → IsErrorOf (kept_input j) e (f (drop n (kept_input j)))
ErrorOf-kept i j e n f same h = ErrorOf-fault (kept_input j) e (f (drop n (kept_input j)))
    (subst (λ (k : Parser × Global). IsFaultOf (kept_input k) e (f (drop n (kept_input k)))) same h)

-- the whole is that part
pub FaultOf-same : {A : Type 0} (i j : Parser × Global) (e : Error) (f : Version → Reader A) (t : List ℕ) (a : Answer A)
    → i ≡ j → a ≡ f (kept_version j) t → IsFaultOf (kept_input i) e (f (kept_version i) t)
    → IsFaultOf (kept_input j) e a
FaultOf-same i j e f t a same eq h = rw eq (subst (λ (k : Parser
    × Global). IsFaultOf (kept_input k) e (f (kept_version k) t)) same h)

-- the whole is that part
pub ErrorOf-same : {A : Type 0} (i j : Parser × Global) (e : Error) (f : Version → Reader A) (t : List ℕ) (a : Answer A)
    → i ≡ j → a ≡ f (kept_version j) t → IsErrorOf (kept_input i) e (f (kept_version i) t)
    → IsErrorOf (kept_input j) e a
ErrorOf-same i j e f t a same eq h = rw eq (subst (λ (k : Parser
    × Global). IsErrorOf (kept_input k) e (f (kept_version k) t)) same h)

-- the whole goes on after that part
pub ErrorOf-part : {A B : Type 0} (i j : Parser × Global) (e : Error) (f : Version → Reader A) (g : A
    → Reader B) (t : List ℕ) (a : Answer B) → i ≡ j → a ≡ (f (kept_version j) >>= g) t
    → IsErrorOf (kept_input i) e (f (kept_version i) t) → IsErrorOf (kept_input j) e a
ErrorOf-part i j e f g t a same eq h = rw eq (on e.index
    (subst (λ (k : Parser × Global). IsErrorOf (kept_input k) e (f (kept_version k) t)) same h))
  where
    on : (o : Option ℕ) → MatchOption o (IsRefusal (kept_input j) e)
        (λ index. (located (f (kept_version j) t) ≡ Err (e.kind, drop index (kept_input j)))
        × (index ≤ length (kept_input j)))
        → MatchOption o (IsRefusal (kept_input j) e) (λ index. (located ((f (kept_version j) >>= g) t)
        ≡ Err (e.kind, drop index (kept_input j))) × (index ≤ length (kept_input j)))
    on None h = h
    on (Some n) h = (fault_bind (f (kept_version j)) g t _ _ h.0, h.1)
