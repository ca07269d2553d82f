-- Definitions for readers: the head of a member, its parameters, and a pair that is put into a map.
use Rattle.std.specs.Prelude.{◌≡◌, ℕ, List, [], ◌∷◌, ◌++◌, ◌⊎◌, Option, MatchOption}
use Rattle.sfv_spec.specs.Values.{RawField, BareValue, RawItem, RawParameters, RawMember, item, inner_list}
use Rattle.sfv_spec.specs.declared.field_kind.FieldKind.{FieldKind}
use Rattle.sfv_spec.specs.declared.version.Version.{Version}
use Rattle.sfv_spec.specs.Ordered.{collapse}
use Rattle.sfv_spec.specs.Statements.{IsParsedAs}
use Rattle.sfv_base.specs.declared.error.Error.{Error}
use Rattle.sfv_base.specs.Errors.{out_of_memory}
use Rattle.sfv.specs.Memory.{HoldsMark}

-- the item with this bare item and these parameters
abbrev pub raw_item : BareValue → RawParameters → RawItem
raw_item b ps = record { bare = b; parameters = ps }

-- the part of a member before its parameters
pub data Head : Type 0 where
  -- the bare item of an item
  of_item : BareValue → Head
  -- the items of an inner list
  of_inner_list : List RawItem → Head

-- the member with this head and these parameters
abbrev pub member_of : Head → RawParameters → RawMember
member_of (of_item b) ps = item (raw_item b ps)
member_of (of_inner_list xs) ps = inner_list (record { items = xs; parameters = ps })

-- the head of a member
abbrev pub head_of : RawMember → Head
head_of (item i) = of_item i.bare
head_of (inner_list l) = of_inner_list l.items

-- the parameters of a member
abbrev pub parameters_of : RawMember → RawParameters
parameters_of (item i) = i.parameters
parameters_of (inner_list l) = l.parameters

-- the pairs with one more: an existing key keeps its position and takes the value, and a new key goes last
unfoldable pub put : {A : Type 0} → List (List ℕ × A) → List ℕ → A → List (List ℕ × A)
put ps k v = collapse (ps ++ (k, v) ∷ [])

-- the text parses to a field, and the reader's state is the state after its value
abbrev pub IsReadBy : {R : Type 0} → Version → (kind : FieldKind) → (R → RawField kind → Type 0) → List ℕ → R → Type 0
IsReadBy version kind reads t found = (value : RawField kind) × IsParsedAs version kind t value × reads found value

-- the error is out of memory only if the text contains a backslash, a percent sign or a colon
abbrev pub ErrorNeedsMark : List ℕ → Error → Type 0
ErrorNeedsMark t e = e ≡ out_of_memory → HoldsMark t

-- the same, or if a reader may run out of memory
abbrev pub NeedsMarkUnless : Type 0 → List ℕ → Error → Type 0
NeedsMarkUnless may_fail t e = e ≡ out_of_memory → HoldsMark t ⊎ may_fail

-- the items with one more, which has no parameters yet
abbrev pub AddsItem : {R : Type 0} → (R → List RawItem → Type 0) → R → R → BareValue → Type 0
AddsItem reads old new b = (xs : List RawItem) → reads old xs → reads new (xs ++ raw_item b [] ∷ [])

-- one more parameter of the last item
abbrev pub AddsItemParameter : {R : Type 0} → (R → List RawItem → Type 0) → R → R → List ℕ → BareValue → Type 0
AddsItemParameter reads old new key value = (xs : List RawItem) (b : BareValue) (ps : RawParameters)
    → reads old (xs ++ raw_item b ps ∷ []) → reads new (xs ++ raw_item b (put ps key value) ∷ [])

-- one more parameter of a member
abbrev pub AddsParameter : {M : Type 0} → (M → Head → RawParameters → Type 0) → M → M → List ℕ → BareValue → Type 0
AddsParameter keeps old new key value =
    (head : Head) (ps : RawParameters) → keeps old head ps → keeps new head (put ps key value)

-- the list with one more member
abbrev pub AddsMember : {R M : Type 0} → (R → R → List RawMember → Type 0) → (R → M → Head → RawParameters → Type 0)
    → R → R → M → Type 0
AddsMember {R} reads keeps old new member = (start : R) (m : RawMember) (ms : List RawMember)
    → keeps old member (head_of m) (parameters_of m) → reads start old ms → reads start new (ms ++ m ∷ [])

-- the members of a dictionary with their keys
abbrev pub Members : Type 0
Members = List (List ℕ × RawMember)

-- a member with this key changes nothing
abbrev pub IsIgnored : {R : Type 0} → (R → R → Members → Type 0) → R → List ℕ → Type 0
IsIgnored {R} reads s key =
    (start : R) (ms : Members) (m : RawMember) → reads start s ms → reads start s (put ms key m)

-- this key has this text
abbrev pub IsNamed : {R K : Type 0} → (R → R → Members → Type 0) → (R → K → List ℕ) → R → List ℕ → K → Type 0
IsNamed {R} reads text s name key = (start : R) (ms : Members) → reads start s ms → text start key ≡ name

-- The answer for the key of a member: a key with this text; or none, if the member changes nothing.
abbrev pub IsKeyFor : {R K : Type 0} → (R → R → Members → Type 0) → (R → K → List ℕ) → R → List ℕ → Option K → Type 0
IsKeyFor reads text s name found = MatchOption found (IsIgnored reads s name) (IsNamed reads text s name)

-- the member with this key is now an item without parameters
abbrev pub PutsItem : {R K : Type 0} → (R → R → Members → Type 0) → (R → K → List ℕ) → R → R → K → BareValue → Type 0
PutsItem {R} reads text old new key b = (start : R) (ms : Members) → reads start old ms
    → reads start new (put ms (text start key) (member_of (of_item b) []))

-- the member with this key is now the inner list of these items, without parameters
abbrev pub PutsInnerList : {R K I : Type 0} → (R → R → Members → Type 0) → (R → K → List ℕ)
    → (I → List RawItem → Type 0) → R → R → K → I → Type 0
PutsInnerList {R} reads text inner old new key items = (start : R) (ms : Members) (xs : List RawItem) → inner items xs
    → reads start old ms → reads start new (put ms (text start key) (member_of (of_inner_list xs) []))

-- one more parameter of the member with this key
abbrev pub PutsParameter : {R K : Type 0} → (R → R → Members → Type 0) → (R → K → List ℕ) → R → R → K → List ℕ
    → BareValue → Type 0
PutsParameter {R} reads text old new key name value = (start : R) (ms : Members) (head : Head) (ps : RawParameters)
    → reads start old (put ms (text start key) (member_of head ps))
    → reads start new (put ms (text start key) (member_of head (put ps name value)))
