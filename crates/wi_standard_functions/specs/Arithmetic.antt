-- What is calculated with numbers and with texts (OpenFormula, "Standard Operators").
use Rattle.std.specs.Prelude.{ℕ, pos, length, nat_le, ◌==◌, ◌&&◌, int_lt, Option, Result, Err, ok_or, if◌then◌else◌}
use Rattle.std.specs.Ordering.{int_eq}
use Rattle.wi_fraction.specs.Number as numbers
use Rattle.wi_fraction.specs.Number.{number_of}
use Rattle.wi_fraction.specs.Arithmetic.{sum_of, product_of, quotient_of, negated, power_of}
use Rattle.wi_fraction.specs.Text.{Bytes}
use Rattle.wi_values.specs.Import.{max_text}
use Rattle.wi_values.specs.declared.value.ErrorKind.{ErrorKind}
use Rattle.wi_values.specs.declared.value.ErrorKind.TheVariants.{DivisionByZero, BadNumber, BadValue}
use Rattle.wi_values.specs.declared.value.Value.{Value}
use Rattle.wi_values.specs.declared.value.Value.TheVariants.{Number, Text, Fault}
use Rattle.wi_standard_functions.specs.Convert.{to_number}
use Rattle.wi_standard_functions.specs.Steps.{◌>>=◌}

-- ---- numbers

abbrev pub fitting : Option numbers.Number → Result numbers.Number ErrorKind
fitting x = ok_or x BadNumber

abbrev pub Operation : Type 0
Operation = numbers.Number → numbers.Number → Result numbers.Number ErrorKind

abbrev pub addition : Operation
addition x y = fitting (sum_of x y)

abbrev pub subtraction : Operation
subtraction x y = fitting (sum_of x (negated y))

abbrev pub multiplication : Operation
multiplication x y = fitting (product_of x y)

abbrev pub division : Operation
division x y = if int_eq y.num (pos 0) then Err DivisionByZero else fitting (quotient_of x y)

-- the exponent is whole, and zero has no negative power
abbrev pub exponentiation : Operation
exponentiation x y =
    if y.den == 1 then
    (if int_eq x.num (pos 0) && int_lt y.num (pos 0) then Err DivisionByZero else fitting (power_of x y.num))
    else Err BadNumber

abbrev pub calculated : Operation → Value → Value → Value
calculated operation v w = do x ← to_number v; y ← to_number w; z ← operation x y; Number z

abbrev pub whole_number : ℕ → Result numbers.Number ErrorKind
whole_number n = fitting (number_of (pos n) 1)

abbrev pub whole_value : ℕ → Value
whole_value n = do x ← whole_number n; Number x

-- ---- texts

abbrev pub limited_text : Bytes → Value
limited_text t = if nat_le (length t) max_text then Text t else Fault BadValue
