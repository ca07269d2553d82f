-- Borrowed strings (section 3.3.3).
use Rattle.sfv_values.specs.declared.string.StringClass.{StringClass}
use Rattle.sfv_values.specs.declared.checked_text_ref.CheckedTextRef.{CheckedTextRef}
use Rattle.sfv_values.specs.contracts.string.StringClassTextClass.TheImpl.{ghosts}

-- a borrowed String, as a type of the definitions
abbrev pub StringRef : Type 0
StringRef = CheckedTextRef StringClass ghosts
