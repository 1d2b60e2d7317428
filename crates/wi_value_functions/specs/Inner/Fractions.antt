-- What an operation on fractions gives.
use Rattle.std.specs.Prelude.{Result, Ok, Err}
use Rattle.wi_fraction.specs.Number.{Number}
use Rattle.wi_fraction.specs.declared.FractionError.{FractionError}
use Rattle.wi_fraction.specs.declared.FractionError.TheVariants.{ZeroDenominator, Overflow}
use Rattle.wi_values.specs.declared.value.ErrorKind.{ErrorKind}
use Rattle.wi_values.specs.declared.value.ErrorKind.TheVariants.{DivisionByZero, BadNumber}

-- the number, or the error of a zero divisor or of a number that does not fit
abbrev pub number_or_error : Result Number FractionError → Result Number ErrorKind
number_or_error (Ok x) = Ok x
number_or_error (Err ZeroDenominator) = Err DivisionByZero
number_or_error (Err Overflow) = Err BadNumber
