-- Borrowed tokens (section 3.3.4).
use Rattle.sfv_values.specs.declared.token.TokenClass.{TokenClass}
use Rattle.sfv_values.specs.declared.checked_text_ref.CheckedTextRef.{CheckedTextRef}
use Rattle.sfv_values.specs.contracts.token.TokenClassTextClass.TheImpl.{ghosts}

-- a borrowed Token, as a type of the definitions
abbrev pub TokenRef : Type 0
TokenRef = CheckedTextRef TokenClass ghosts
