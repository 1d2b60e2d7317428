-- How the outcomes of MATCH, INDEX, VLOOKUP and HLOOKUP stand to the definitions, whatever cells hold of which nothing
-- is known.
use Rattle.std.specs.Prelude.{◌≡◌, ℕ, ◌+◌, true, List, Option, None, Result, Ok, Err}
use Rattle.std.specs.List.{list_any}
use Rattle.wi_values.specs.Address.{Area, is_within}
use Rattle.wi_values.specs.declared.value.ErrorKind.{ErrorKind}
use Rattle.wi_values.specs.declared.value.Value.{Value}
use Rattle.wi_values.specs.declared.value.Value.TheVariants.{Fault}
use Rattle.wi_standard_functions.specs.Arguments.{Argument, Region, region_of}
use Rattle.wi_standard_functions.specs.Arithmetic.{whole_value}
use Rattle.wi_arguments.specs.declared.argument.Argument as given
use Rattle.wi_arguments.specs.Arguments.{arguments_in, KnownAgrees, IsMissing, refers_to}
use Rattle.wi_value_functions.specs.declared.no_value.NoValue.{NoValue}
use Rattle.wi_value_functions.specs.declared.no_value.NoValue.TheVariants.{Error, Stopped}

-- it holds whatever the cells hold of which this is known
abbrev pub WhateverHeld : (ℕ → Option Value) → ((ℕ → Value) → Type 0) → Type 0
WhateverHeld known P = (cells : ℕ → Value) → KnownAgrees known cells → P cells

-- what a step gives, as `view` sees it, or its error; or this is so of the cell that is missing
abbrev pub Agrees : {A B : Type 0} → (ℕ → Option Value) → (ℕ → Type 0) → (A → B) → ((ℕ → Value) → Result B ErrorKind) → Result A (NoValue ℕ) → Type 0
Agrees known P view step (Ok x) = WhateverHeld known (λ cells. step cells ≡ Ok (view x))
Agrees known P view step (Err (Error e)) = WhateverHeld known (λ cells. step cells ≡ Err e)
Agrees known P view step (Err (Stopped c)) = P c

-- the cell whose value a function gives, to which one of the arguments refers, or the function's error
abbrev pub Finds : (ℕ → Option Value) → List given.Argument → (List Argument → Value) → Result ℕ (NoValue ℕ) → Type 0
Finds known args f (Ok c) = WhateverHeld known (λ cells. f (arguments_in cells args) ≡ cells c) × (list_any (refers_to c) args ≡ true)
Finds known args f (Err (Error e)) = WhateverHeld known (λ cells. f (arguments_in cells args) ≡ Fault e)
Finds known args f (Err (Stopped c)) = IsMissing known args c

-- the cell isn't known, and lies in the rectangle
abbrev pub IsMissingIn : (ℕ → Option Value) → Area → ℕ → Type 0
IsMissingIn known r c = (known c ≡ None) × (is_within r c ≡ true)

-- ---- places

-- the cell of the rectangle whose value is given of what stands there, or the error
abbrev pub IsPlacedIn : Area → (Region → Value) → Result ℕ ErrorKind → Type 0
IsPlacedIn r f (Ok c) = ((cells : ℕ → Value) → f (region_of cells r) ≡ cells c) × (is_within r c ≡ true)
IsPlacedIn r f (Err e) = (cells : ℕ → Value) → f (region_of cells r) ≡ Fault e

-- the place, from 0, that a function gives counted from 1, or the function's error
abbrev pub Places : (ℕ → Option Value) → List given.Argument → (List Argument → Value) → Result ℕ (NoValue ℕ) → Type 0
Places known args f (Ok n) = WhateverHeld known (λ cells. f (arguments_in cells args) ≡ whole_value (n + 1))
Places known args f (Err (Error e)) = WhateverHeld known (λ cells. f (arguments_in cells args) ≡ Fault e)
Places known args f (Err (Stopped c)) = IsMissing known args c
