-- What a placed formula means, given a list of values.
use Rattle.std.specs.Prelude.{ℕ, List, map, slice_get}
use Rattle.std.specs.Option.{option_map_or}
use Rattle.wi_values.specs.declared.value.Value.{Value}
use Rattle.wi_values.specs.declared.value.Value.TheVariants.{Empty}
use Rattle.wi_value_functions.specs.Applied.{applied_to_arguments, applied_to_values, arguments_of}
use Rattle.wi_value_functions.specs.declared.function.Function.TheVariants as functions
use Rattle.wi_functions.specs.Operators.{operate, with_sign}
use Rattle.wi_functions.specs.Inner.Named.{hundredth}
use Rattle.wi_functions.specs.declared.placed.Placed.{Placed, fold-Placed}
use Rattle.wi_functions.specs.declared.placed.Placed.TheOpen.{Placed-F}

-- the value at a place, counted from 0, or Empty
abbrev pub value_at_place : List Value → ℕ → Value
value_at_place vs i = option_map_or (λ (v : Value). v) (slice_get vs i) Empty

-- one level, with each part already seen as what it means
abbrev pub layer_value : Placed-F (List Value → Value) → List Value → Value
layer_value (Placed-F.Constant v) vs = v
layer_value (Placed-F.Place i) vs = value_at_place vs i
layer_value (Placed-F.Signed s t) vs = with_sign s (t.value vs)
layer_value (Placed-F.Percent t) vs = hundredth (t.value vs)
layer_value (Placed-F.Binary op t) vs = operate op (t.value.0 vs) (t.value.1 vs)
layer_value (Placed-F.Lazy f ts) vs = applied_to_arguments (functions.Lazy f) (arguments_of (map (λ (t : List Value → Value). t vs) ts.items))
layer_value (Placed-F.Values f ts) vs = applied_to_values f (map (λ (t : List Value → Value). t vs) ts.items)

-- the value of a placed formula
abbrev pub placed_value : Placed → List Value → Value
placed_value = fold-Placed (List Value → Value) layer_value

-- the values of placed formulas
abbrev pub placed_values : List Placed → List Value → List Value
placed_values ps vs = map (λ (t : List Value → Value). t vs) (map placed_value ps)
