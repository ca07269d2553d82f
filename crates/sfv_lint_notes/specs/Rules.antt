-- The types that the definitions of fields require.
use Rattle.std.specs.Prelude.{ℕ, List, ◌++◌, Bool, true, false, codes}
use Rattle.sfv.specs.Values.{BareValue, boolean, integer, string, token, byte_sequence}
use Rattle.sfv_lint_notes.specs.declared.rules.Types.{Types}
use Rattle.sfv_lint_notes.specs.declared.rules.Types.TheVariants as types
use Rattle.sfv_lint_notes.specs.declared.rules.Part.{Part}
use Rattle.sfv_lint_notes.specs.declared.rules.Part.TheVariants as parts
use Rattle.sfv_lint_notes.specs.declared.rules.Rule.{Rule}

-- the bare item has one of the types
abbrev pub has_type : Types → BareValue → Bool
has_type types.Boolean (boolean b) = true
has_type types.Integer (integer z) = true
has_type types.String (string s) = true
has_type types.Token (token t) = true
has_type types.ByteSequence (byte_sequence b) = true
has_type types.StringOrToken (string s) = true
has_type types.StringOrToken (token t) = true
has_type types.TokenOrByteSequence (token t) = true
has_type types.TokenOrByteSequence (byte_sequence b) = true
has_type t v = false

-- the types in words
abbrev pub types_text : Types → List ℕ
types_text types.Boolean = codes "a boolean"
types_text types.Integer = codes "an integer"
types_text types.String = codes "a string"
types_text types.Token = codes "a token"
types_text types.ByteSequence = codes "a byte sequence"
types_text types.StringOrToken = codes "a string or a token"
types_text types.TokenOrByteSequence = codes "a token or a byte sequence"

-- a part of a field, as the beginning of a sentence
abbrev pub part_text : Part → List ℕ
part_text parts.Members = codes "a member is "
part_text parts.InnerItems = codes "a member is an inner list, and each of its items "
part_text (parts.Member key) = key.now ++ codes " is "
part_text (parts.Parameter key) = codes "the parameter " ++ key.now ++ codes " is "

-- what a rule says: the part, its types and the document
abbrev pub rule_text : Rule → List ℕ
rule_text rule = part_text rule.part ++ types_text rule.types ++ codes " (" ++ rule.source.now ++ codes ")"
