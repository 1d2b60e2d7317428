-- The order of two texts, read byte by byte.
use Rattle.wi_value_functions.proofs.Words.{◌≡◌, ℕ, zero, suc, ◌+◌, ◌<◌, true, false, List, [], ◌∷◌, length, get_or, drop, refl, sym, ap, ◌∙◌, arith, nat_cmp_is, slice_cmp, nat_cmp, is_ne, ordering_then, Ordering, Less, Equal, Greater, same_nat_cmp}
use Rattle.std.proofs.Common.{min}

-- the order of what two texts have from a place on
abbrev pub order_from : ℕ → List ℕ → List ℕ → Ordering
order_from i xs ys = slice_cmp nat_cmp (drop i xs) (drop i ys)

-- the bytes at the place tell it, or else those after it
told : (i : ℕ) (xs ys : List ℕ) → i < length xs → i < length ys → order_from i xs ys ≡ ordering_then (nat_cmp (get_or xs i 0) (get_or ys i 0)) (order_from (suc i) xs ys)
told i [] ys h g = absurd (omega arith)
told i (x ∷ xs) [] h g = absurd (omega arith)
told zero (x ∷ xs) (y ∷ ys) h g = refl
told (suc i) (x ∷ xs) (y ∷ ys) h g = told i xs ys (omega arith) (omega arith)

decides : (o rest : Ordering) → is_ne o ≡ true → o ≡ ordering_then o rest
decides Less rest h = refl
decides Equal rest h = cc
decides Greater rest h = refl

defers : (o rest : Ordering) → is_ne o ≡ false → rest ≡ ordering_then o rest
defers Less rest h = cc
defers Equal rest h = refl
defers Greater rest h = cc

module _ (i : ℕ) (xs ys : List ℕ) (first : i < length xs) (second : i < length ys) (o : Ordering) (is : o ≡ nat_cmp (get_or xs i 0) (get_or ys i 0)) where
  both : ordering_then o (order_from (suc i) xs ys) ≡ order_from i xs ys
  both = ap (λ p. ordering_then p (order_from (suc i) xs ys)) is ∙ sym (told i xs ys first second)

  -- bytes that differ tell it
  pub apart : is_ne o ≡ true → o ≡ order_from i xs ys
  apart h = decides o _ h ∙ both

  -- where they don't, those after them do
  pub alike : is_ne o ≡ false → order_from (i + 1) xs ys ≡ order_from i xs ys
  alike h =
      let next : i + 1 ≡ suc i = omega arith in
      ap (λ k. order_from k xs ys) next ∙ defers o _ h ∙ both

-- where one text ends, the lengths tell it
pub ended : (i : ℕ) (xs ys : List ℕ) → i ≡ min (length xs) (length ys) → nat_cmp (length xs) (length ys) ≡ order_from i xs ys
ended zero [] [] e = refl
ended zero [] (y ∷ ys) e = sym (nat_cmp_is 0 (suc (length ys)) Less (omega arith))
ended zero (x ∷ xs) [] e = sym (nat_cmp_is (suc (length xs)) 0 Greater (omega arith))
ended zero (x ∷ xs) (y ∷ ys) e = absurd (omega arith)
ended (suc i) [] ys e = absurd (omega arith)
ended (suc i) (x ∷ xs) [] e = absurd (omega arith)
ended (suc i) (x ∷ xs) (y ∷ ys) e = one_less ∙ ended i xs ys (omega arith)
  where
    one_less : nat_cmp (suc (length xs)) (suc (length ys)) ≡ nat_cmp (length xs) (length ys)
    one_less = same_nat_cmp (suc (length xs)) (suc (length ys)) (length xs) (length ys) (λ h. omega (arith, h)) (λ h. omega (arith, h)) (λ h. omega (arith, h))
