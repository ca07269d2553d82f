-- Readers of keys, parameters and items.
use Rattle.std.specs.Prelude.{ℕ, true, List, [], ◌∷◌, Option, Some, None}
use Rattle.sfv_spec.proofs.Marks.{equals_sign, semicolon, is_space}
use Rattle.sfv_spec.specs.Classes.{is_key_start, is_key_inner}
use Rattle.sfv_spec.specs.Values.{BareValue, boolean, RawParameters, RawItem}
use Rattle.sfv_spec.specs.declared.version.Version.{Version}
use Rattle.sfv_spec.specs.Events.{TreeEvent, bare_item, parameter}
use Rattle.sfv_spec.specs.declared.error_kind.ErrorKind.TheVariants.{ExpectedStartOfKey}
use Rattle.sfv_model.specs.Reader.{Reader, give, fail, ◌>>=◌, branch, led, span, many, byte}
use Rattle.sfv_model.specs.Bare.{bare_at}

-- a key
unfoldable pub key_at : Reader (List ℕ)
key_at = branch is_key_start (λ c. span is_key_inner >>= λ cs. give (c ∷ cs)) (fail ExpectedStartOfKey)

-- the value of a parameter after its key, or true
unfoldable pub value_at : Version → Reader BareValue
value_at version = branch (byte equals_sign) (λ _. bare_at version) (give (boolean true))

-- one more parameter, or none
unfoldable pub parameter_at : Version → Reader (Option (List ℕ × BareValue))
parameter_at version = branch (byte semicolon) (λ _. span is_space >>= λ _. key_at >>= λ key.
    value_at version >>= λ v. give (Some (key, v))) (give None)

-- the event of a parameter
abbrev pub parameter_event : List ℕ × BareValue → List TreeEvent
parameter_event p = parameter p.0 p.1 ∷ []

-- all parameters that follow
unfoldable pub parameters_at : Version → Reader RawParameters
parameters_at version = many parameter_event (parameter_at version)

-- the item of these parts
abbrev pub item_of : BareValue → RawParameters → RawItem
item_of b ps = record { bare = b; parameters = ps }

-- a bare item and its parameters
unfoldable pub item_at : Version → Reader RawItem
item_at version = bare_at version >>= λ bare. led (bare_item bare ∷ [])
    (parameters_at version >>= λ ps. give (item_of bare ps))
