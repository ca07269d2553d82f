-- The numbers of integers, decimals and dates.
use Rattle.std.specs.Prelude.{ℤ}
use Rattle.sfv_base.specs.declared.integer.Integer.{Integer}
use Rattle.sfv_base.specs.declared.decimal.Decimal.{Decimal}
use Rattle.sfv_base.specs.declared.date.Date.{Date}

-- the number of an Integer (section 3.3.1)
abbrev pub integer_of : Integer → ℤ
integer_of n = n.value

-- the number of a Decimal, in thousandths (section 3.3.2)
abbrev pub thousandths_of : Decimal → ℤ
thousandths_of d = integer_of d.thousandths

-- the number of a Date, in seconds from the Unix epoch (section 3.3.7)
abbrev pub seconds_of : Date → ℤ
seconds_of d = integer_of d.seconds
