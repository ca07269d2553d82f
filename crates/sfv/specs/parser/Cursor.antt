-- The state of a cursor, and the results of parsing functions.
use Rattle.std.specs.Prelude.{◌≡◌, ℕ, ◌≤◌, Bool, true, false, IsTrue, List, ◌∷◌, length, drop, Result, Ok, Err}
use Rattle.std.specs.Prelude.{MatchOption}
use Rattle.std.specs.List.{Contains}
use Rattle.std.specs.declared.alloc.Global.{Global}
use Rattle.sfv_spec.specs.declared.field_kind.FieldKind.{FieldKind}
use Rattle.sfv_spec.specs.declared.version.Version.{Version}
use Rattle.sfv_base.specs.declared.error.Error.{Error}
use Rattle.sfv_spec.specs.declared.error_kind.ErrorKind.{ErrorKind}
use Rattle.sfv_base.specs.Errors.{kind_of, index_of}
use Rattle.sfv_model.specs.Reader.{Fault, Answer, Reader, Apart}
use Rattle.sfv.specs.declared.parser.Parser.{Parser}
use Rattle.sfv.specs.declared.parser.cursor.Cursor.{Cursor}
use Rattle.sfv.specs.Memory.{may_need_memory, IsRefusal}

-- the parts of a cursor that no parsing function changes: the parser and the allocator
abbrev pub kept : Cursor → Parser × Global
kept c = (c.parser, c.alloc)

-- the input of a parser
abbrev pub kept_input : Parser × Global → List ℕ
kept_input k = k.0.input.now

-- the version of a parser
abbrev pub kept_version : Parser × Global → Version
kept_version k = k.0.version

-- the whole input of a cursor
abbrev pub input : Cursor → List ℕ
input c = kept_input (kept c)

-- the version of a cursor
abbrev pub version : Cursor → Version
version c = kept_version (kept c)

-- the input from the next byte on
abbrev pub rest : Cursor → List ℕ
rest c = drop c.index (input c)

-- the text contains a byte for which memory may be needed
abbrev pub MayNeedMemory : FieldKind → List ℕ → Type 0
MayNeedMemory kind t = (c : ℕ) × Contains t c × IsTrue (may_need_memory kind c)

-- a reader's result in terms of the code: for a fault, the kind of error, and the input from the fault on
abbrev pub located : {A : Type 0} → Answer A → Result (A × List ℕ) (ErrorKind × List ℕ)
located (Ok x) = Ok x
located (Err f) = Err (f.kind, f.rest)

-- the same for the result on a whole input, which has no rest
abbrev pub located_whole : {A : Type 0} → Result A Fault → Result A (ErrorKind × List ℕ)
located_whole (Ok v) = Ok v
located_whole (Err f) = Err (f.kind, f.rest)

-- the reader fails, and `e` has the kind and the index of its fault
abbrev pub IsFaultOf : {A : Type 0} → List ℕ → Error → Answer A → Type 0
IsFaultOf input e answer =
    MatchOption (index_of e) ⊥ (λ index. (located answer ≡ Err (kind_of e, drop index input)) × (index ≤ length input))

-- the same, or `e` is out of memory, and the input contains a byte that allocates (`IsRefusal`)
abbrev pub IsErrorOf : {A : Type 0} → List ℕ → Error → Answer A → Type 0
IsErrorOf input e answer =
    MatchOption (index_of e) (IsRefusal input e) (λ index. (located answer ≡ Err (kind_of e, drop index input))
    × (index ≤ length input))

-- The result, seen through `view`, equals the reader's result on the rest of the input. On success, the cursor is after
-- the parsed bytes.
abbrev pub Reads : {X Y : Type 0} → (X → Y) → Cursor → Cursor → Result X Error → Reader Y → Type 0
Reads view before after (Ok x) reader = (reader (rest before) ≡ Ok (view x, rest after)) × (kept after ≡ kept before)
Reads view before after (Err e) reader = IsFaultOf (input before) e (reader (rest before))

-- The same for a function that may run out of memory.
abbrev pub ReadsOrOutOfMemory : {X Y : Type 0} → (X → Y) → Cursor → Cursor → Result X Error → Reader Y → Type 0
ReadsOrOutOfMemory view before after (Ok x) reader = (reader (rest before) ≡ Ok (view x, rest after))
    × (kept after ≡ kept before)
ReadsOrOutOfMemory view before after (Err e) reader = IsErrorOf (input before) e (reader (rest before))

-- `true`: the next byte is of the class; `false`: it is not, or there is none
abbrev pub NextIs : (ℕ → Bool) → Bool → List ℕ → Type 0
NextIs class true t = (b : ℕ) × (r : List ℕ) × (t ≡ b ∷ r) × (class b ≡ true)
NextIs class false t = Apart class t

-- `true`: a byte of the class was consumed; `false`: none was, because the next byte is not of the class
abbrev pub TakesIf : (ℕ → Bool) → Bool → List ℕ → List ℕ → Type 0
TakesIf class true t r = (b : ℕ) × (t ≡ b ∷ r) × (class b ≡ true)
TakesIf class false t r = (r ≡ t) × Apart class t

-- one byte was consumed
abbrev pub Skips : List ℕ → List ℕ → Type 0
Skips t r = (b : ℕ) × (t ≡ b ∷ r)
