-- An error is a kind, and an index in the input if there is one.
use Rattle.std.specs.Prelude.{ℕ, List, [], ◌++◌, Option, Some, None, codes, decimal as decimal_digits}
use Rattle.sfv_base.specs.declared.error.Error.{Error}
use Rattle.sfv_spec.specs.declared.error_kind.ErrorKind.{ErrorKind}
use Rattle.sfv_spec.specs.declared.error_kind.ErrorKind.TheVariants as kinds
use Rattle.sfv_spec.specs.Messages.{message_of}

-- the error with this kind and this index
abbrev pub error_of : ErrorKind → Option ℕ → Error
error_of kind index = record { kind = kind; index = index }

-- the kind of an error
abbrev pub kind_of : Error → ErrorKind
kind_of e = e.kind

-- the index of an error in the input, if it has one
abbrev pub index_of : Error → Option ℕ
index_of e = e.index

-- the error that memory ran out; it has no index
abbrev pub out_of_memory : Error
out_of_memory = error_of kinds.OutOfMemory None

-- the printed text of an error: the text of its kind, and the index if there is one
abbrev pub error_text : Error → List ℕ
error_text e = message_of e.kind ++ elim e.index [ None ↦ [] | Some i ↦ codes " at index " ++ decimal_digits i ]
