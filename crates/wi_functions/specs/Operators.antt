-- What each operator gives for its operands (OpenFormula, "Standard Operators").
use Rattle.std.specs.Prelude.{◌++◌}
use Rattle.std.specs.Ordering.{is_eq, is_ne, is_lt, is_le, is_gt, is_ge}
use Rattle.wi_fraction.specs.Arithmetic.{negated}
use Rattle.wi_values.specs.declared.value.Value.{Value}
use Rattle.wi_values.specs.declared.value.Value.TheVariants.{Number}
use Rattle.wi_parser.specs.declared.expr.Operator.{Operator}
use Rattle.wi_parser.specs.declared.expr.Operator.TheVariants as op
use Rattle.wi_parser.specs.declared.expr.Sign.{Sign}
use Rattle.wi_parser.specs.declared.expr.Sign.TheVariants.{Plus, Minus}
use Rattle.wi_standard_functions.specs.Arithmetic.{addition, subtraction, multiplication, division, exponentiation, calculated, limited_text}
use Rattle.wi_standard_functions.specs.Comparison.{compared}
use Rattle.wi_standard_functions.specs.Convert.{to_number, to_text}
use Rattle.wi_standard_functions.specs.Steps.{◌>>=◌}

abbrev pub operate : Operator → Value → Value → Value
operate op.Add = calculated addition
operate op.Subtract = calculated subtraction
operate op.Multiply = calculated multiplication
operate op.Divide = calculated division
operate op.Power = calculated exponentiation
operate op.Join = λ v w. (do s ← to_text v; t ← to_text w; limited_text (s ++ t))
operate op.Equal = compared is_eq
operate op.NotEqual = compared is_ne
operate op.Less = compared is_lt
operate op.LessOrEqual = compared is_le
operate op.Greater = compared is_gt
operate op.GreaterOrEqual = compared is_ge

-- a plus changes nothing, not even a text
abbrev pub with_sign : Sign → Value → Value
with_sign Plus v = v
with_sign Minus v = do x ← to_number v; Number (negated x)
