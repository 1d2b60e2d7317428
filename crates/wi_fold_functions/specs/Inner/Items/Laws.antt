-- Laws of the words for items.
use Rattle.std.specs.Prelude.{◌≡◌, Result, Ok, Err, refl}
use Rattle.wi_values.specs.declared.value.ErrorKind.{ErrorKind}
use Rattle.wi_values.specs.declared.value.Value.TheVariants.{Empty}
use Rattle.wi_standard_functions.specs.Sequence.{Item, from_cell}
use Rattle.wi_standard_functions.specs.Steps.{and_then}

-- an Empty cell that makes no difference to what is made makes none to an error either
pub empty_passed : {A : Type 0} (step : A → Item → Result A ErrorKind) → ((a : A) → step a (from_cell Empty) ≡ Ok a) → (before : Result A ErrorKind) → and_then (λ a. step a (from_cell Empty)) before ≡ before
empty_passed step passes (Ok a) = passes a
empty_passed step passes (Err e) = refl

-- and after an error no item does
pub error_stays : {A : Type 0} (step : A → Item → Result A ErrorKind) (e : ErrorKind) (item : Item) → and_then {A = A} (λ a. step a item) (Err e) ≡ Err e
error_stays step e item = refl
