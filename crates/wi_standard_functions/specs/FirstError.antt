-- The first error from the left.
use Rattle.std.specs.Prelude.{Result, Ok, Err}
use Rattle.wi_values.specs.declared.value.ErrorKind.{ErrorKind}
use Rattle.wi_values.specs.declared.value.Value.{Value}
use Rattle.wi_values.specs.declared.value.Value.TheVariants.{Fault}

abbrev pub no_error : Value → Result Value ErrorKind
no_error (Fault e) = Err e
no_error v = Ok v
