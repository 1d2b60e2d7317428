-- The steps of a function, as a value.
use Rattle.std.specs.Prelude.{Result, Ok, Err}
use Rattle.wi_fraction.specs.Number as numbers
use Rattle.wi_values.specs.declared.value.ErrorKind.{ErrorKind}
use Rattle.wi_values.specs.declared.value.Value.{Value}
use Rattle.wi_values.specs.declared.value.Value.TheVariants.{Number, Fault}

-- the number, or the error
abbrev pub number_value : Result numbers.Number ErrorKind → Value
number_value (Ok x) = Number x
number_value (Err e) = Fault e
