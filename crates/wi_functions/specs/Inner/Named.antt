-- Parts of a formula's meaning by names of their own.
use Rattle.std.specs.Prelude.{Bool, ◌==◌}
use Rattle.wi_values.specs.declared.value.Value.{Value}
use Rattle.wi_values.specs.declared.value.Value.TheVariants.{Number}
use Rattle.wi_parser.specs.declared.expr.Corners.{Corners}
use Rattle.wi_parser.specs.declared.expr.Operator.TheVariants.{Divide}
use Rattle.wi_standard_functions.specs.Convert.{hundred_number}
use Rattle.wi_functions.specs.Operators.{operate}

-- a rectangle of one cell
abbrev pub is_one_cell : Corners → Bool
is_one_cell c = c.one.at == c.other.at

-- the quotient by 100
abbrev pub hundredth : Value → Value
hundredth v = operate Divide v (Number hundred_number)
