-- The items of arguments, one after another.
pub mod Laws
use Rattle.std.specs.Prelude.{List, fold, Result}
use Rattle.wi_values.specs.declared.value.ErrorKind.{ErrorKind}
use Rattle.wi_values.specs.declared.value.Value.{Value}
use Rattle.wi_standard_functions.specs.Arguments.{Argument}
use Rattle.wi_standard_functions.specs.Inner.Named.{items_of_one}
use Rattle.wi_standard_functions.specs.Sequence.{Item, from_cell, scalar}
use Rattle.wi_standard_functions.specs.Steps.{◌>>=◌, and_then}
use Rattle.wi_fold_functions.specs.declared.item.Item as code

-- the item that the code hands over
abbrev pub item_of : code.Item → Item
item_of (code.TheVariants.OfCell v) = from_cell v.now
item_of (code.TheVariants.Scalar v) = scalar v.now

-- the items of one argument
abbrev pub items_of : Argument → List Item
items_of a = items_of_one a.value a.region

-- what a step makes of what was made so far and one more item, or the error met before
abbrev pub go_on : {A : Type 0} → (A → Item → Result A ErrorKind) → Result A ErrorKind → Item → Result A ErrorKind
go_on step before item = and_then (λ a. step a item) before

-- and of more items
abbrev pub go_on_through : {A : Type 0} → (A → Item → Result A ErrorKind) → Result A ErrorKind → List Item → Result A ErrorKind
go_on_through step before items = fold (go_on step) before items

-- what is shown of what was made, or the error
abbrev pub shown : {A : Type 0} → (A → Value) → Result A ErrorKind → Value
shown value r = r >>= value
