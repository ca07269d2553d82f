-- Events as the events of the definitions.
use Rattle.std.specs.Prelude.{Bool, false, not}
use Rattle.sfv_spec.specs.Events.{TreeEvent}
use Rattle.sfv_spec.specs.Events as tree
use Rattle.sfv_values.specs.CheckedTexts.{text_of}
use Rattle.sfv_values.specs.BareItems.{input_value, is_borrowed}
use Rattle.sfv_tree.specs.declared.visitor.Event.{Event}
use Rattle.sfv_tree.specs.declared.visitor.Event.TheVariants as event

-- the event in the definitions, whether its text is borrowed or owned
abbrev pub event_of : Event → TreeEvent
event_of event.Entry = tree.entry
event_of (event.KeyedEntry key) = tree.keyed_entry (text_of key)
event_of event.Item = tree.begins_item
event_of event.InnerList = tree.begins_inner_list
event_of (event.BareItem value) = tree.bare_item (input_value value)
event_of (event.Parameter key value) = tree.parameter (text_of key) (input_value value)
event_of event.ParametersEnd = tree.parameters_end
event_of event.InnerListEnd = tree.inner_list_end

-- the event is a bare item without borrowed text: a builder moves it into a tree
abbrev pub is_moved : Event → Bool
is_moved (event.BareItem value) = not (is_borrowed value)
is_moved e = false
