-- What the parameters that a function is given stand for, given a value for each cell.
use Rattle.std.specs.Prelude.{◌≡◌, ◌==◌, ℕ, Bool, true, false, if◌then◌else◌, List, map, Option, None, Some, IfSome, Result, Ok, Err, slice_get}
use Rattle.std.specs.List.{list_any}
use Rattle.std.specs.Option.{option_map_or}
use Rattle.std.specs.Borrow.{Bor}
use Rattle.wi_values.specs.Address.{Area, is_within}
use Rattle.wi_values.specs.declared.value.ErrorKind.{ErrorKind}
use Rattle.wi_values.specs.declared.value.ErrorKind.TheVariants.{BadValue}
use Rattle.wi_values.specs.declared.value.Value.{Value}
use Rattle.wi_values.specs.declared.value.Value.TheVariants.{Fault}
use Rattle.wi_standard_functions.specs.Arguments.{Argument, Region, region_of}
use Rattle.wi_standard_functions.specs.Steps.{and_then}
use Rattle.wi_standard_functions.specs.Inner.Named.{argument_of}
use Rattle.wi_arguments.specs.declared.argument.Argument as given

-- the value of a reference, where one is asked for: of one cell what it holds, and of more an error
abbrev pub value_of_area : (ℕ → Value) → Area → Value
value_of_area cells r = if r.first == r.last then cells r.first else Fault BadValue

-- the argument that a parameter is
abbrev pub argument_in : (ℕ → Value) → given.Argument → Argument
argument_in cells (given.TheVariants.Reference r) = argument_of cells (value_of_area cells r) (Some r)
argument_in cells (given.TheVariants.Value v) = argument_of cells v None

abbrev pub arguments_in : (ℕ → Value) → List given.Argument → List Argument
arguments_in cells args = map (argument_in cells) args

-- the rectangle that a parameter refers to
abbrev pub area_referred : given.Argument → Result Area ErrorKind
area_referred (given.TheVariants.Reference r) = Ok r
area_referred (given.TheVariants.Value v) = Err BadValue

abbrev pub area_at : List given.Argument → ℕ → Result Area ErrorKind
area_at args i = option_map_or area_referred (slice_get args i) (Err BadValue)

-- the region of a rectangle, or the error
abbrev pub region_in : (ℕ → Value) → Result Area ErrorKind → Result Region ErrorKind
region_in cells area = and_then (λ r. Ok (region_of cells r)) area

-- the value that is lent, or else the error
abbrev pub value_lent : Result (Bor Value) ErrorKind → Value
value_lent (Ok v) = v.now
value_lent (Err e) = Fault e

-- what is known of cells is so
abbrev pub KnownAgrees : (ℕ → Option Value) → (ℕ → Value) → Type 0
KnownAgrees known cells = (c : ℕ) → IfSome (known c) (λ v. v ≡ cells c)

-- whatever the cells hold of which this is known, the function gives this value for the arguments
abbrev pub IsOfArguments : (ℕ → Option Value) → (List Argument → Value) → List given.Argument → Value → Type 0
IsOfArguments known f args v = (cells : ℕ → Value) → KnownAgrees known cells → v ≡ f (arguments_in cells args)

-- one of the arguments refers to the cell
abbrev pub refers_to : ℕ → given.Argument → Bool
refers_to c (given.TheVariants.Reference r) = is_within r c
refers_to c (given.TheVariants.Value v) = false

-- each cell of the rectangle is one to which some argument refers
abbrev pub IsReferred : List given.Argument → Area → Type 0
IsReferred args r = (c : ℕ) → is_within r c ≡ true → list_any (refers_to c) args ≡ true

-- the cell's value isn't known, and one of the arguments refers to it
abbrev pub IsMissing : (ℕ → Option Value) → List given.Argument → ℕ → Type 0
IsMissing known args c = (known c ≡ None) × (list_any (refers_to c) args ≡ true)
