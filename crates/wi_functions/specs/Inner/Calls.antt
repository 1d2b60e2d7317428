-- The parameters of a call as they are valued.
use Rattle.std.specs.Prelude.{◌≡◌, ℕ, true, List, map, length}
use Rattle.std.specs.List.{list_any}
use Rattle.wi_values.specs.declared.value.Value.{Value}
use Rattle.wi_parser.specs.Tree.{Trees}
use Rattle.wi_standard_functions.specs.Arguments.{Argument, value_at, value_or}
use Rattle.wi_value_functions.specs.Applied.{applied_to_arguments}
use Rattle.wi_value_functions.specs.declared.function.Function.TheVariants.{Lazy}
use Rattle.wi_value_functions.specs.declared.function.LazyFunction.{LazyFunction}
use Rattle.wi_arguments.specs.Arguments.{refers_to}
use Rattle.wi_arguments.specs.declared.argument.Argument as given
use Rattle.wi_functions.specs.Wants.{AnyTreeAsks}
use Rattle.wi_functions.specs.declared.choice.Choice as choice
use Rattle.wi_functions.specs.declared.evaluation.Want.TheVariants.{Cell}

-- the values of arguments
abbrev pub values_of : List Argument → List Value
values_of args = map (λ (a : Argument). a.value) args

-- the cells to which arguments refer are those of leaves of these trees
abbrev pub ReferInside : List given.Argument → Trees → Type 0
ReferInside args ts = (c : ℕ) → list_any (refers_to c) args ≡ true → AnyTreeAsks ts (Cell c)

-- the value that is chosen of arguments
abbrev pub chosen_of : choice.Choice → List Argument → Value
chosen_of (choice.TheVariants.Value v) args = v
chosen_of (choice.TheVariants.Parameter place default) args = value_or default args place

-- whatever arguments there are, so many of them and the first with this value: what is chosen of them is what the
-- function gives
abbrev pub Chooses : LazyFunction → Value → ℕ → choice.Choice → Type 0
Chooses function first count made = (args : List Argument) → length args ≡ count → first ≡ value_at args 0 → chosen_of made args ≡ applied_to_arguments (Lazy function) args
