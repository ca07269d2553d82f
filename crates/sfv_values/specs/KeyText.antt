-- Borrowed keys (section 3.1.2).
use Rattle.sfv_values.specs.declared.key.KeyClass.{KeyClass}
use Rattle.sfv_values.specs.declared.checked_text_ref.CheckedTextRef.{CheckedTextRef}
use Rattle.sfv_values.specs.contracts.key.KeyClassTextClass.TheImpl.{ghosts}

-- a borrowed key, as a type of the definitions
abbrev pub KeyRef : Type 0
KeyRef = CheckedTextRef KeyClass ghosts
