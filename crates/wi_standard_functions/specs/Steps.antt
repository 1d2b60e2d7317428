-- The steps of a function, from the left: the first error met is its result.
use Rattle.std.specs.Prelude.{List, [], ◌∷◌, Result, Ok, Err}
use Rattle.wi_values.specs.declared.value.ErrorKind.{ErrorKind}
use Rattle.wi_values.specs.declared.value.Value.{Value}
use Rattle.wi_values.specs.declared.value.Value.TheVariants.{Fault}

-- what a function goes on to give, or the error met before
infixl 10 ◌>>=◌
abbrev pub ◌>>=◌ : {A : Type 0} → Result A ErrorKind → (A → Value) → Value
Ok x >>= f = f x
Err e >>= f = Fault e

abbrev pub and_then : {A B : Type 0} → (A → Result B ErrorKind) → Result A ErrorKind → Result B ErrorKind
and_then f (Ok x) = f x
and_then f (Err e) = Err e

abbrev pub map_until_error : {X Y : Type 0} → (X → Result Y ErrorKind) → List X → Result (List Y) ErrorKind
map_until_error f [] = Ok []
map_until_error f (x ∷ xs) = and_then (λ y. and_then (λ ys. Ok (y ∷ ys)) (map_until_error f xs)) (f x)
