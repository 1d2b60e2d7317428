-- What a formula's tree means, given a value for each cell and for each what-if (OpenFormula, "Standard Operators" and
-- "MULTIPLE.OPERATIONS").
use Rattle.std.specs.Prelude.{◌==◌, ℕ, if◌then◌else◌, List, [], ◌∷◌, map, Option, Some, None, option_map}
use Rattle.wi_values.specs.declared.value.Value.{Value}
use Rattle.wi_values.specs.declared.value.Value.TheVariants.{Empty, Number, Text, Fault}
use Rattle.wi_values.specs.declared.value.ErrorKind.TheVariants.{BadValue}
use Rattle.wi_values.specs.Address.{Area, rect_of}
use Rattle.wi_parser.specs.declared.expr.Operator.TheVariants.{Divide}
use Rattle.wi_parser.specs.Tree.{Tree, Trees, number, text, cell, rectangle, parenthesized, signed, percent, binary, what_if, call, no_trees, more_trees, area_of}
use Rattle.wi_standard_functions.specs.Arguments.{Argument, region_of}
use Rattle.wi_standard_functions.specs.Functions.{call_value}
use Rattle.wi_standard_functions.specs.Convert.{zero_number, hundred_number}
use Rattle.wi_functions.specs.Operators.{operate, with_sign}

-- what a parameter refers to, also in parentheses
abbrev pub referred : Tree → Option Area
referred (cell r) = Some (rect_of r.at r.at)
referred (rectangle c) = Some (area_of c)
referred (parenthesized t) = referred t
referred t = None

abbrev mutual
  -- where `cells` gives the value of each cell, and `what_ifs` that of each what-if
  pub meaning : Tree → (ℕ → Value) → (ℕ → List (ℕ × ℕ) → Value) → Value
  meaning (number x) cells what_ifs = Number x
  meaning (text s) cells what_ifs = Text s
  meaning (cell r) cells what_ifs = cells r.at
  meaning (rectangle c) cells what_ifs = if c.one.at == c.other.at then cells c.one.at else Fault BadValue
  meaning (parenthesized t) cells what_ifs = meaning t cells what_ifs
  meaning (signed s t) cells what_ifs = with_sign s (meaning t cells what_ifs)
  meaning (percent t) cells what_ifs = operate Divide (meaning t cells what_ifs) (Number hundred_number)
  meaning (binary op t u) cells what_ifs = operate op (meaning t cells what_ifs) (meaning u cells what_ifs)
  meaning (what_if f pairs) cells what_ifs = what_ifs f.at (map (λ p. (p.0.at, p.1.at)) pairs)
  meaning (call f ts) cells what_ifs = call_value f (arguments ts cells what_ifs)

  pub arguments : Trees → (ℕ → Value) → (ℕ → List (ℕ × ℕ) → Value) → List Argument
  arguments no_trees cells what_ifs = []
  arguments (more_trees t ts) cells what_ifs =
      record { value = meaning t cells what_ifs; region = option_map (region_of cells) (referred t) } ∷ arguments ts cells what_ifs

-- a formula's result
abbrev pub zero_for_empty : Value → Value
zero_for_empty Empty = Number zero_number
zero_for_empty v = v
