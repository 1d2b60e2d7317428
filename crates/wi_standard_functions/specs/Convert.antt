-- Values taken for numbers, whole numbers, truth values and texts (OpenFormula, "Implicit Conversion Operators").
use Rattle.std.specs.Prelude.{ℕ, ℤ, pos, ◌≤◌, Bool, true, false, not, Result, Ok, Err}
use Rattle.std.specs.Ordering.{int_eq}
use Rattle.std.proofs.Common.{lit≤}
use Rattle.wi_fraction.proofs.OverOne.{whole_is_number}
use Rattle.wi_fraction.specs.Number.{Number, max_size}
use Rattle.wi_fraction.specs.Rounding.{rounded}
use Rattle.wi_fraction.specs.declared.rounding.Mode.TheVariants.{Toward}
use Rattle.wi_fraction.specs.Text.{Bytes}
use Rattle.wi_values.specs.Value.{shown_text}
use Rattle.wi_values.specs.declared.value.ErrorKind.{ErrorKind}
use Rattle.wi_values.specs.declared.value.ErrorKind.TheVariants.{BadValue}
use Rattle.wi_values.specs.declared.value.Value as value
use Rattle.wi_values.specs.declared.value.Value.TheVariants as v
use Rattle.wi_standard_functions.specs.Steps.{and_then}

abbrev pub whole : (n : ℕ) → n ≤ max_size → Number
whole n fits = record { num = pos n; den = 1; is_number = whole_is_number n fits }

abbrev pub zero_number : Number
zero_number = whole 0 (lit≤ tt)

abbrev pub one_number : Number
one_number = whole 1 (lit≤ tt)

abbrev pub hundred_number : Number
hundred_number = whole 100 (lit≤ tt)

abbrev pub to_number : value.Value → Result Number ErrorKind
to_number v.Empty = Ok zero_number
to_number (v.Number x) = Ok x
to_number (v.Text t) = Err BadValue
to_number (v.Logical true) = Ok one_number
to_number (v.Logical false) = Ok zero_number
to_number (v.Fault e) = Err e

abbrev pub to_whole : value.Value → Result ℤ ErrorKind
to_whole w = and_then (λ x. Ok (rounded Toward x).num) (to_number w)

abbrev pub to_logical : value.Value → Result Bool ErrorKind
to_logical v.Empty = Ok false
to_logical (v.Number x) = Ok (not (int_eq x.num (pos 0)))
to_logical (v.Text t) = Err BadValue
to_logical (v.Logical b) = Ok b
to_logical (v.Fault e) = Err e

abbrev pub to_text : value.Value → Result Bytes ErrorKind
to_text (v.Fault e) = Err e
to_text x = Ok (shown_text x)
