-- The input of a text to a hasher.
use Rattle.std.specs.Prelude.{ℕ, List, length, nat_lt, if◌then◌else◌}
use Rattle.std.specs.Hash as fed
use Rattle.std.specs.Hash.DefaultHasher as sip
use Rattle.std.specs.List.{fold}

-- a text of at most eight bytes itself, and of any other text its hash by SipHash-1-3
abbrev pub hash_input_of : List ℕ → List (List ℕ)
hash_input_of text = if nat_lt 8 (length text)
    then fed.u64 (sip.finish (fold sip.write sip.initial (fed.str text))) else fed.str text
