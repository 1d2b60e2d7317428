-- How the code's outcomes stand to the definitions.
use Rattle.std.specs.Prelude.{◌≡◌, ℕ, ◌++◌, List, Result, Ok, Err, ⊤, string_bytes}
use Rattle.wi_values.specs.declared.value.ErrorKind.{ErrorKind}
use Rattle.wi_value_functions.specs.declared.text.convert.Shown.{Shown}
use Rattle.wi_value_functions.specs.declared.text.convert.Shown.TheVariants.{Lent, Written}
use Rattle.wi_value_functions.specs.declared.no_value.NoValue.{NoValue}
use Rattle.wi_value_functions.specs.declared.no_value.NoValue.TheVariants.{Error, Stopped}

-- a step's result, as f sees it, or its error, unless memory is wanting
abbrev pub Agrees : {A B S : Type 0} → (A → B) → Result A (NoValue S) → Result B ErrorKind → Type 0
Agrees f (Ok x) r = r ≡ Ok (f x)
Agrees f (Err (Error e)) r = r ≡ Err e
Agrees f (Err (Stopped s)) r = ⊤

-- the bytes of a text that is lent or written
abbrev pub shown_bytes : Shown → List ℕ
shown_bytes (Lent s) = s.now
shown_bytes (Written s) = string_bytes s

-- the rest is what a text ends with
abbrev pub EndsWith : List ℕ → List ℕ → Type 0
EndsWith text rest = (front : List ℕ) × (text ≡ front ++ rest)
