-- Cells in row-major order, and one put in.
use Rattle.wi_worlds.proofs.Words.{◌≡◌, ◌==◌, ◌<◌, ◌≤◌, ◌+◌, ◌-◌, ◌||◌, ℕ, Bool, true, false, List, ◌∷◌, length, get_or, ⊎_elim, refl, sym, ap, ◌∙◌, subst, arith, insert, IsStrictlyIncreasing, cases_lt, nat_tests, length-insert, get_or-insert_below, get_or-insert_at, get_or-insert_above, IsPermutation-insert, list_any-IsPermutation, is_one_of}

-- ---- one more

-- a cell that is there is put in
pub has_still : (xs : List ℕ) (x c : ℕ) → is_one_of xs x ≡ true → is_one_of xs c ≡ ((x == c) || is_one_of xs c)
has_still xs x c h = by (x == c) refl
  where
    same : (x == c) ≡ true → x ≡ c
    same t = grind (arith, nat_tests, t)

    by : (b : Bool) → (x == c) ≡ b → is_one_of xs c ≡ (b || is_one_of xs c)
    by true t = subst (λ (y : ℕ). is_one_of xs y ≡ true) (same t) h
    by false t = refl

pub has_more : (xs : List ℕ) (i x c : ℕ) → is_one_of (insert xs i x) c ≡ ((x == c) || is_one_of xs c)
has_more xs i x c = sym (list_any-IsPermutation (λ y. y == c) (x ∷ xs) (insert xs i x) (IsPermutation-insert xs i x))

module _ (xs : List ℕ) (i c : ℕ) (order : IsStrictlyIncreasing xs) (within : i ≤ length xs)
    (below : (k : ℕ) → k < i → get_or xs k 0 < c) (above : (k : ℕ) → i ≤ k → k < length xs → c < get_or xs k 0) where
  long : length (insert xs i c) ≡ length xs + 1
  long = length-insert xs i c within

  here : (k : ℕ) → k ≡ i → get_or (insert xs i c) k 0 ≡ c
  here k e = ap (λ (j : ℕ). get_or (insert xs i c) j 0) e ∙ get_or-insert_at xs i c 0 within

  before : (k : ℕ) → k < i → get_or (insert xs i c) k 0 ≡ get_or xs k 0
  before k l = get_or-insert_below xs i c 0 k l within

  behind : (k : ℕ) → i < k → get_or (insert xs i c) k 0 ≡ get_or xs (k - 1) 0
  behind k l =
      let back : k ≡ k - 1 + 1 = omega (arith, l) in
      ap (λ (j : ℕ). get_or (insert xs i c) j 0) back ∙ get_or-insert_above xs i c 0 (k - 1) (omega (arith, l)) within

  rises : (k : ℕ) → k + 1 < length xs → get_or xs k 0 < get_or xs (k + 1) 0
  rises k l = order k l

  rises_behind : (k : ℕ) → i < k → k < length xs → get_or xs (k - 1) 0 < get_or xs k 0
  rises_behind k l m =
      let back : k - 1 + 1 ≡ k = omega (arith, l) in
      subst (λ (j : ℕ). get_or xs (k - 1) 0 < get_or xs j 0) back (rises (k - 1) (omega (arith, l, m)))

  next : (k : ℕ) → k + 1 < length (insert xs i c) → get_or (insert xs i c) k 0 < get_or (insert xs i c) (k + 1) 0
  next k l =
      ⊎_elim (λ m. omega (arith, before k (omega (arith, m)), before (k + 1) m, rises k (omega (arith, m, within))))
      (λ m. ⊎_elim (λ n. omega (arith, before k n, here (k + 1) (omega (arith, m, n)), below k n))
      (λ n. ⊎_elim (λ p. omega (arith, behind k p, last k p, rises_behind k p (omega (arith, l, long))))
      (λ p. let same : k ≡ i = omega (arith, n, p) in omega (arith, here k same, last_here k same, above k n (omega (arith, l, long))))
      (cases_lt i k)) (cases_lt k i)) (cases_lt (k + 1) i)
    where
      after : (j : ℕ) → j + 1 - 1 ≡ j
      after j = omega arith

      last : (j : ℕ) → i < j → get_or (insert xs i c) (j + 1) 0 ≡ get_or xs j 0
      last j p = behind (j + 1) (omega (arith, p)) ∙ ap (λ (q : ℕ). get_or xs q 0) (after j)

      last_here : (j : ℕ) → j ≡ i → get_or (insert xs i c) (j + 1) 0 ≡ get_or xs j 0
      last_here j e = behind (j + 1) (omega (arith, e)) ∙ ap (λ (q : ℕ). get_or xs q 0) (after j)

  pub rise_more : IsStrictlyIncreasing (insert xs i c)
  rise_more k l = next k l
