-- Borrowed texts.
use Rattle.std.specs.Borrow.{RattleType}
use Rattle.std.specs.declared.alloc.Global.{Global}
use Rattle.std.specs.declared.string.String.{String}
use Rattle.std.specs.contracts.string.String as text
use Rattle.std.specs.contracts.alloc.Global as heap
use Rattle.std.specs.contracts.impls.GlobalAllocator.TheImpl.{ghosts}

-- a text that serializers borrow
abbrev pub Text : Type 0
Text = String Global

-- the type of such a text in the logic of borrows
abbrev pub text_row : RattleType
text_row = text.the_row heap.the_row ghosts
