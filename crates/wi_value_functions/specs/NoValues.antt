-- How a function ends.
use Rattle.std.specs.Prelude.{◌≡◌, Result, Ok, Err, ⊤}
use Rattle.wi_values.specs.declared.value.Value.{Value}
use Rattle.wi_values.specs.declared.value.Value.TheVariants.{Fault}
use Rattle.wi_value_functions.specs.declared.no_value.NoValue.{NoValue}
use Rattle.wi_value_functions.specs.declared.no_value.NoValue.TheVariants.{Error, Stopped}
use Rattle.wi_value_functions.specs.declared.no_value.Stop.{Stop}
use Rattle.wi_value_functions.specs.declared.no_value.Stop.TheVariants.{Missing, Memory}

-- the value, which an error is too
abbrev pub as_value : {S : Type 0} → Result Value (NoValue S) → Result Value S
as_value (Ok v) = Ok v
as_value (Err (Error e)) = Ok (Fault e)
as_value (Err (Stopped s)) = Err s

-- the value, unless the function is stopped
abbrev pub Gives : {S : Type 0} → Result Value (NoValue S) → Value → Type 0
Gives (Ok w) v = w ≡ v
Gives (Err (Error e)) v = Fault e ≡ v
Gives (Err (Stopped s)) v = ⊤

-- a fact of that for whose value a function stops
abbrev pub IfMissing : {W : Type 0} → Stop W → (W → Type 0) → Type 0
IfMissing (Missing w) P = P w
IfMissing Memory P = Unit {0}
