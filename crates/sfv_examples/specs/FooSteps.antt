-- The steps of the example's visitor, event by event.
use Rattle.std.specs.Prelude.{Bool, true, false, Result, Ok, Err, ◌&&◌, bytes_eq, if◌then◌else◌}
use Rattle.sfv.specs.Events.{TreeEvent, keyed_entry, begins_inner_list, bare_item, parameter}
use Rattle.sfv_examples.specs.declared.foo.Foo.{Foo}
use Rattle.sfv_examples.specs.declared.foo.FooFault.{FooFault}
use Rattle.sfv_examples.specs.declared.foo.FooFault.TheVariants as faults
use Rattle.sfv_examples.specs.declared.foo.FooVisitor.{FooVisitor}
use Rattle.sfv_examples.specs.Foo.{color_key, strong_key, color_in, strong_in, foo_of}

-- the state before any event
abbrev pub unread : FooVisitor
unread = record { in_color = false; color = Err faults.ColorMissing; strong = Ok false }

-- A member begins. A repeated `color` discards the earlier result, and any other member is ignored.
abbrev pub begun : FooVisitor → Bool → FooVisitor
begun s true = record { in_color = true; color = Err faults.ColorWrongType; strong = Ok false }
begun s false = record { in_color = false; color = s.color; strong = s.strong }

-- the state after one more event
abbrev pub foo_step : FooVisitor → TreeEvent → FooVisitor
foo_step s (keyed_entry key) = begun s (bytes_eq color_key key)
foo_step s begins_inner_list = record { in_color = false; color = s.color; strong = s.strong }
foo_step s (bare_item b) = if s.in_color then record { in_color = true; color = color_in b; strong = s.strong } else s
foo_step s (parameter key b) =
    if s.in_color && bytes_eq strong_key key
    then record { in_color = true; color = s.color; strong = strong_in b } else s
foo_step s e = s

-- the result at the end
abbrev pub foo_found : FooVisitor → Result Foo FooFault
foo_found s = foo_of s.color s.strong
