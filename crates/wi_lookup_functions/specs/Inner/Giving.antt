-- How the outcomes of COUNTIF, SUMIF and SUMPRODUCT stand to the definitions.
use Rattle.std.specs.Prelude.{◌≡◌, ℕ, List, Option, Result, Ok, Err}
use Rattle.wi_values.specs.declared.value.ErrorKind.{ErrorKind}
use Rattle.wi_values.specs.declared.value.Value.{Value}
use Rattle.wi_values.specs.declared.value.Value.TheVariants.{Fault}
use Rattle.wi_standard_functions.specs.Arguments.{Argument}
use Rattle.wi_standard_functions.specs.Inner.Criteria as defined
use Rattle.wi_standard_functions.specs.Inner.Criteria.{criterion_of}
use Rattle.wi_standard_functions.specs.FirstError.{no_error}
use Rattle.wi_standard_functions.specs.Steps.{and_then}
use Rattle.wi_arguments.specs.declared.argument.Argument as given
use Rattle.wi_value_functions.specs.declared.no_value.Stop.{Stop}
use Rattle.wi_value_functions.specs.declared.no_value.Stop.TheVariants.{Memory}
use Rattle.wi_arguments.specs.Arguments.{KnownAgrees, IsOfArguments, IsMissing}
use Rattle.wi_value_functions.specs.NoValues.{IfMissing}
use Rattle.wi_value_functions.specs.declared.no_value.NoValue.{NoValue}
use Rattle.wi_value_functions.specs.declared.no_value.NoValue.TheVariants.{Error, Stopped}
use Rattle.wi_lookup_functions.specs.declared.criterion.Criterion.{Criterion}
use Rattle.wi_lookup_functions.specs.Inner.Meeting.{criterion_held}

-- the function's value or error, whatever the cells hold of which this is known, or a cell whose value is missing
abbrev pub Gives : (ℕ → Option Value) → (List Argument → Value) → List given.Argument → Result Value (NoValue (Stop ℕ)) → Type 0
Gives known f args (Ok v) = IsOfArguments known f args v
Gives known f args (Err (Error e)) = IsOfArguments known f args (Fault e)
Gives known f args (Err (Stopped s)) = IfMissing s (IsMissing known args)

-- a step's result as `seen`, or its error, whatever the cells hold of which this is known; where it stops for a cell,
-- that is so of the cell
abbrev pub Agrees : {A B : Type 0} → (ℕ → Option Value) → (ℕ → Type 0) → (A → B) → ((ℕ → Value) → Result B ErrorKind) → Result A (NoValue (Stop ℕ)) → Type 0
Agrees known missing seen r (Ok x) = (cells : ℕ → Value) → KnownAgrees known cells → r cells ≡ Ok (seen x)
Agrees known missing seen r (Err (Error e)) = (cells : ℕ → Value) → KnownAgrees known cells → r cells ≡ Err e
Agrees known missing seen r (Err (Stopped s)) = IfMissing s missing

-- ---- arguments

-- the criterion that an argument's value is, unless that is an error
abbrev pub criterion_argument : Value → Result defined.Criterion ErrorKind
criterion_argument v = and_then (λ w. Ok (criterion_of w)) (no_error v)

abbrev pub IsCriterionOf : Value → Result Criterion (NoValue (Stop ℕ)) → Type 0
IsCriterionOf v (Ok c) = criterion_argument v ≡ Ok (criterion_held c)
IsCriterionOf v (Err (Error e)) = criterion_argument v ≡ Err e
IsCriterionOf v (Err (Stopped s)) = s ≡ Memory
