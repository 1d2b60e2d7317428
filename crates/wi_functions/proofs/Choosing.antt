-- The parameter that CHOOSE counts out.
use Rattle.wi_functions.proofs.Words.{◌≡◌, ℕ, zero, suc, ℤ, ◌<◌, ◌≤◌, Bool, false, cond, List, [], ◌∷◌, length, None, Ok, refl, sym, ap, ◌∙◌, arith, pos, negsuc, ◌≤ℤ◌, int_lt, unsigned_abs, slice_get, ok_or, nat_tests, ints, ErrorKind, BadValue, Value, Empty, Argument, value_at, value_or, to_whole, chosen, choose_of, ◌>>=◌}
use Rattle.std.specs.Prelude.{Result}

there : (args : List Argument) (i : ℕ) → i < length args → value_or Empty args i ≡ (ok_or (slice_get args i) BadValue >>= (λ (a : Argument). a.value))
there [] i l = absurd (omega (arith, l))
there (x ∷ xs) zero l = refl
there (x ∷ xs) (suc i) l = there xs i (omega (arith, l))

-- a place that a whole number is
pub of_place : (k : ℤ) (i : ℕ) → pos 0 ≤ℤ k → i ≡ unsigned_abs k → k ≡ pos i
of_place (pos n) i l e = ap (λ (m : ℕ). pos m) (sym e)
of_place (negsuc n) i l e = absurd (omega (arith, ints, l))

not_below : (i : ℕ) → 1 ≤ i → int_lt (pos i) (pos 1) ≡ false
not_below i l = grind (arith, nat_tests)

-- one that is counted from 1 on, and is there
pub chosen_there : (args : List Argument) (v : Value) (k : ℤ) (i : ℕ) → v ≡ value_at args 0 → Ok k ≡ to_whole v → k ≡ pos i → 1 ≤ i → i < length args → value_or Empty args i ≡ choose_of args
chosen_there args v k i h e p l m =
    there args i m
    ∙ ap (λ (b : Bool). ok_or (cond b None (slice_get args i)) BadValue >>= (λ (a : Argument). a.value)) (sym (not_below i l))
    ∙ ap (λ (j : ℤ). chosen j args >>= (λ (a : Argument). a.value)) (sym p)
    ∙ ap (λ (o : Result ℤ ErrorKind). o >>= (λ (j : ℤ). chosen j args >>= (λ (a : Argument). a.value))) (e ∙ ap to_whole h)
