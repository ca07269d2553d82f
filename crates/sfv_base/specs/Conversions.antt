-- The results of conversions of numbers.
use Rattle.std.specs.Prelude.{◌≡◌, ℕ, ◌-◌, ◌<◌, ◌^◌, None, Result, MatchResult, ℤ, pos, neg_ℤ, nat_abs, ◌≤ℤ◌}
use Rattle.std.specs.Prelude.{◌<ℤ◌}
use Rattle.sfv_base.specs.declared.error.Error.{Error}
use Rattle.sfv_spec.specs.declared.error_kind.ErrorKind.TheVariants.{OutOfRange}
use Rattle.sfv_base.specs.Errors.{error_of}

-- the number is in the range of a signed type with this many bits
abbrev pub IsSigned : ℕ → ℤ → Type 0
IsSigned bits z = (neg_ℤ (pos (2 ^ (bits - 1))) ≤ℤ z) × (z <ℤ pos (2 ^ (bits - 1)))

-- the number is in the range of an unsigned type with this many bits
abbrev pub IsUnsigned : ℕ → ℤ → Type 0
IsUnsigned bits z = (pos 0 ≤ℤ z) × (z <ℤ pos (2 ^ bits))

-- z has at most twelve digits, as the whole part of a Decimal (section 3.3.2)
abbrev pub IsWhole : ℤ → Type 0
IsWhole z = nat_abs z < 10 ^ 12

-- r is a value with this property if the number fits, otherwise the error that it is out of range
abbrev pub GivesIf : {A : Type 0} → Type 0 → (A → Type 0) → Result A Error → Type 0
GivesIf fits Is r = MatchResult r (λ x. Is x × fits) (λ e. (e ≡ error_of OutOfRange None) × ¬ fits)
