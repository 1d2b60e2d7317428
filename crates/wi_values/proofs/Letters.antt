-- The letters of a column, one by one.
use Rattle.wi_values.proofs.Words.{◌≡◌, ℕ, zero, suc, ◌+◌, ◌-◌, ◌/◌, ◌%◌, ◌<◌, List, [], ◌∷◌, ◌++◌, refl, sym, ap, ◌∙◌, ◌⊎◌, inl, inr, false, ◌==◌, append_assoc, append-nil, arith, nat_tests, column_letters, letters_within}

pub letters_at_most_none : (n : ℕ) → letters_within 0 n ≡ []
unfolding letters_within
letters_at_most_none n = refl

pub letters_of_none : (most : ℕ) → letters_within most 0 ≡ []
unfolding letters_within
letters_of_none zero = refl
letters_of_none (suc k) = refl

pub letters_more : (most n : ℕ) → 0 < most → 0 < n → letters_within most n ≡ letters_within (most - 1) ((n - 1) / 26) ++ (65 + (n - 1) % 26) ∷ []
unfolding letters_within
letters_more zero n h k = absurd (omega arith)
letters_more (suc m) n h k =
    let some : (n == 0) ≡ false = grind (arith, nat_tests) in
    let fewer : suc m - 1 ≡ m = omega arith in
    rw (some, fewer)

-- nothing is appended where there is no letter, and the last letter comes after the others
pub append_no_letters : (bs : List ℕ) (most n : ℕ) → (most ≡ 0) ⊎ (n ≡ 0) → bs ≡ bs ++ letters_within most n
append_no_letters bs most n (inl e) = sym (rw (e, letters_at_most_none, append-nil))
append_no_letters bs most n (inr e) = sym (rw (e, letters_of_none, append-nil))

pub append_letter : (bs cs ds : List ℕ) (most n : ℕ) → 0 < most → 0 < n → cs ≡ bs ++ letters_within (most - 1) ((n - 1) / 26) → ds ≡ cs ++ (65 + (n - 1) % 26) ∷ [] → ds ≡ bs ++ letters_within most n
append_letter bs cs ds most n h k e f = f ∙ ap (λ x. x ++ (65 + (n - 1) % 26) ∷ []) e ∙ append_assoc bs _ _ ∙ ap (λ x. bs ++ x) (sym (letters_more most n h k))

-- ---- of the column that is counted from 0

pub letters_of_column : (n : ℕ) → letters_within 3 (n + 1) ≡ column_letters n
unfolding column_letters
letters_of_column n = refl
