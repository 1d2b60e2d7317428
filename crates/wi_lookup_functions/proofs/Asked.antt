-- Values that are taken for others.
use Rattle.wi_lookup_functions.proofs.Words.{◌≡◌, ℕ, List, Option, Some, None, Ok, Err, refl, slice_get, option_map_or, ErrorKind, Value, Empty, Number, Text, Logical, Fault, Argument, value_or, value_at, zero_number, no_error, sought_for, and_then}

pub itself : (w v : Value) → no_error w ≡ Ok v → w ≡ v
itself Empty v h = cc
itself (Number x) v h = cc
itself (Text t) v h = cc
itself (Logical b) v h = cc
itself (Fault e) v h = cc

pub fault : (w : Value) (e : ErrorKind) → no_error w ≡ Err e → w ≡ Fault e
fault Empty e h = cc
fault (Number x) e h = cc
fault (Text t) e h = cc
fault (Logical b) e h = cc
fault (Fault d) e h = cc

pub no_fault : (w : Value) → ((e : ErrorKind) → w ≡ Fault e → ⊥) → no_error w ≡ Ok w
no_fault Empty h = refl
no_fault (Number x) h = refl
no_fault (Text t) h = refl
no_fault (Logical b) h = refl
no_fault (Fault e) h = absurd (h e refl)

-- what is sought, where what isn't given is 0 at once
pub sought_or_zero : (args : List Argument) (i : ℕ) → and_then (λ v. Ok (sought_for v)) (no_error (value_at args i)) ≡ and_then (λ v. Ok (sought_for v)) (no_error (value_or (Number zero_number) args i))
sought_or_zero args i = at (slice_get args i)
  where
    at : (o : Option Argument) → and_then (λ v. Ok (sought_for v)) (no_error (option_map_or (λ (b : Argument). b.value) o Empty)) ≡ and_then (λ v. Ok (sought_for v)) (no_error (option_map_or (λ (b : Argument). b.value) o (Number zero_number)))
    at None = refl
    at (Some a) = refl
