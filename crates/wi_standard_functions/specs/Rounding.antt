-- OpenFormula, "Rounding Functions".
use Rattle.wi_fraction.specs.declared.rounding.Mode.{Mode}
use Rattle.wi_fraction.specs.Rounding.{floored, round_to}
use Rattle.wi_values.specs.declared.value.Value.{Value}
use Rattle.wi_values.specs.declared.value.Value.TheVariants.{Number}
use Rattle.wi_standard_functions.specs.Arithmetic.{fitting}
use Rattle.wi_standard_functions.specs.Convert.{to_number, to_whole}
use Rattle.wi_standard_functions.specs.Steps.{◌>>=◌}

abbrev pub int_value : Value → Value
int_value n = do x ← to_number n; Number (floored x)

-- ROUND, ROUNDUP, ROUNDDOWN and TRUNC, by the mode of each
abbrev pub round_value : Mode → Value → Value → Value
round_value mode n places = do x ← to_number n; k ← to_whole places; y ← fitting (round_to x k mode); Number y
