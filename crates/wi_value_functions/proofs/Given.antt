-- The arguments that have some values.
use Rattle.wi_value_functions.proofs.Words.{◌≡◌, ℕ, zero, suc, List, [], ◌∷◌, slice_get, refl, ap, map, unwrap_or, Value, Argument, value_or, arguments_of}

-- at a place
pub given_or : (default : Value) (vs : List Value) (i : ℕ) → value_or default (arguments_of vs) i ≡ unwrap_or (slice_get vs i) default
given_or default [] i = refl
given_or default (v ∷ vs) zero = refl
given_or default (v ∷ vs) (suc i) = given_or default vs i

-- all
pub values_are : (vs : List Value) → map (λ (a : Argument). a.value) (arguments_of vs) ≡ vs
values_are [] = refl
values_are (v ∷ vs) = ap (λ ws. v ∷ ws) (values_are vs)
