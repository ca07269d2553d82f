-- The steps of the provided visitors.
use Rattle.std.specs.Prelude.{◌≡◌, ◌≢◌, ℕ, Some, None, MatchOption, Result, Ok, Err}
use Rattle.std.specs.declared.alloc.Global.{Global}
use Rattle.std.specs.declared.vec.Vec.{Vec}
use Rattle.std.specs.declared.borrow.CowStr.{CowStr}
use Rattle.sfv_spec.specs.Values.{BareValue}
use Rattle.sfv_spec.specs.Events.{TreeEvent}
use Rattle.sfv_values.specs.TokenText.{TokenRef}
use Rattle.sfv_values.specs.BareItems.{input_value}
use Rattle.sfv_values.specs.declared.bare.GenericBareItem.{GenericBareItem}
use Rattle.sfv_values.specs.declared.bare.StringFromInput.{StringFromInput}
use Rattle.sfv_values.specs.Kinds.{kind_of_value}
use Rattle.sfv_values.specs.declared.bare.BareItemType.{BareItemType}
use Rattle.sfv_tree.specs.Events.{event_of}
use Rattle.sfv_tree.specs.declared.visitor.Event.{Event}
use Rattle.sfv_tree.specs.declared.visitor.Event.TheVariants as event
use Rattle.sfv_tree.specs.declared.visitor.ItemFault.{ItemFault}
use Rattle.sfv_tree.specs.declared.visitor.ItemFault.TheVariants as faults
use Rattle.sfv_tree.specs.declared.parameter_visitor.ParameterVisitorWith.{ParameterVisitorWith}
use Rattle.sfv_tree.specs.declared.item_visitor.ItemVisitorWith.{ItemVisitorWith}
use Rattle.sfv_tree.specs.declared.expect_item.ExpectItem.{ExpectItem}

-- `BareItemFromInput`; antt has no name for an alias
abbrev pub ReadBareItem : Type 0
ReadBareItem = GenericBareItem StringFromInput (Vec ℕ Global) TokenRef (CowStr Global)

-- `R` holds of some parsed event with this event's values, whose text may be borrowed or owned
abbrev pub OnRead : {S X : Type 0} → (S → Event → X → Type 0) → S → TreeEvent → X → Type 0
OnRead R s e x = (read : Event) × (event_of read ≡ e) × R s read x

-- the inner visitor accepts the event, and the function is unchanged
abbrev pub ForwardTakes : {V F A X : Type 0} → (V → X → V → Type 0) → ParameterVisitorWith V F A → X
    → ParameterVisitorWith V F A → Type 0
ForwardTakes takes s e t = takes s.visitor e t.visitor × (t.f ≡ s.f)

-- the function returns r for a result of the inner visitor
abbrev pub GivesAfter : {V F A R : Type 0} → (V → A → Type 0) → (F → A → R → Type 0) → ParameterVisitorWith V F A → R
    → Type 0
GivesAfter {A = A} finishes gives s r = (out : A) × finishes s.visitor out × gives s.f out r

-- The first bare item calls the function and keeps its result. Every other event changes nothing.
abbrev pub CallTakes : {F T E : Type 0} → (F → ReadBareItem → Result T E → Type 0) → ItemVisitorWith F T → Event
    → ItemVisitorWith F T → Type 0
CallTakes {T = T} gives s (event.BareItem item) after = MatchOption s.f (after ≡ s) (λ f.
    (out : T) × gives f item (Ok out) × (after.kept ≡ Some out) × (after.f ≡ None))
CallTakes gives s e after = after ≡ s

-- the visitor fails if the function fails
abbrev pub CallFails : {F T E : Type 0} → (F → ReadBareItem → Result T E → Type 0) → ItemVisitorWith F T → Event → E
    → Type 0
CallFails gives s (event.BareItem item) error = MatchOption s.f ⊥ (λ f. gives f item (Err error))
CallFails gives s e error = ⊥

-- The visitor keeps the first bare item, converted to an item that holds its value. Every other event changes nothing.
abbrev pub KeepTakes : {T : Type 0} → (T → BareValue) → (T → ReadBareItem → Type 0) → ExpectItem T → Event
    → ExpectItem T → Type 0
KeepTakes {T} holds is_of s (event.BareItem read) after = MatchOption s.kept ((item : T)
    × (holds item ≡ input_value read) × is_of item read × (after.kept ≡ Some item)) (λ _. after ≡ s)
KeepTakes holds is_of s e after = after ≡ s

-- the visitor fails if the first bare item cannot be converted
abbrev pub KeepFails : {T : Type 0} → (ReadBareItem → ItemFault → Type 0) → ExpectItem T → Event → ItemFault → Type 0
KeepFails fails s (event.BareItem read) fault = MatchOption s.kept (fails read fault) (λ _. ⊥)
KeepFails fails s e fault = ⊥

-- the value has another kind than this, and the fault names both kinds
abbrev pub IsWrongType : BareItemType → BareValue → ItemFault → Type 0
IsWrongType kind value fault = (kind_of_value value ≢ kind) × (fault ≡ faults.WrongType kind (kind_of_value value))
