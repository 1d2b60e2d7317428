-- Which elements of a list pass a test.
use Rattle.wi_sheet.proofs.Words.{◌≡◌, ◌<◌, ◌≤◌, Bool, true, false, ◌||◌, cond, List, [], ◌∷◌, filter, length, refl, arith, list_any}

-- ---- how many

-- what passes the second test passes the first
abbrev pub PassesToo : {A : Type 0} → (A → Bool) → (A → Bool) → Type 0
PassesToo {A} p q = (x : A) → q x ≡ true → p x ≡ true

module _ {A : Type 0} (p q : A → Bool) (h : PassesToo p q) where
  pub no_more : (xs : List A) → length (filter q xs) ≤ length (filter p xs)
  no_more [] = omega arith
  no_more (x ∷ xs) = by (p x) (q x) (h x) (no_more xs)
    where
      by : (b d : Bool) → (d ≡ true → b ≡ true) → length (filter q xs) ≤ length (filter p xs) → length (cond d (x ∷ filter q xs) (filter q xs)) ≤ length (cond b (x ∷ filter p xs) (filter p xs))
      by true true k ih = omega arith
      by true false k ih = omega arith
      by false true k ih = let z = k refl in cc
      by false false k ih = ih

  -- one that is there passes the first test alone
  pub fewer : (m : A → Bool) → ((x : A) → m x ≡ true → (p x ≡ true) × (q x ≡ false)) → (xs : List A) → list_any m xs ≡ true → length (filter q xs) < length (filter p xs)
  fewer m k [] e = cc
  fewer m k (x ∷ xs) e = by (m x) (p x) (q x) (k x) (h x) e (no_more xs) (fewer m k xs)
    where
      by : (n b d : Bool) → (n ≡ true → (b ≡ true) × (d ≡ false)) → (d ≡ true → b ≡ true) → (n || list_any m xs) ≡ true → length (filter q xs) ≤ length (filter p xs)
          → (list_any m xs ≡ true → length (filter q xs) < length (filter p xs)) → length (cond d (x ∷ filter q xs) (filter q xs)) < length (cond b (x ∷ filter p xs) (filter p xs))
      by true true true z i e l ih = let w = z refl in cc
      by true true false z i e l ih = omega arith
      by true false d z i e l ih = let w = z refl in cc
      by false true true z i e l ih = let w = ih e in omega arith
      by false true false z i e l ih = let w = ih e in omega arith
      by false false true z i e l ih = let w = i refl in cc
      by false false false z i e l ih = ih e

-- ---- all, none, and the same

pub all_pass : {A : Type 0} (p : A → Bool) → ((x : A) → p x ≡ true) → (xs : List A) → filter p xs ≡ xs
all_pass p h [] = refl
all_pass p h (x ∷ xs) = rw (h x, all_pass p h xs) refl

pub all_fail : {A : Type 0} (p : A → Bool) → ((x : A) → p x ≡ false) → (xs : List A) → filter p xs ≡ []
all_fail p h [] = refl
all_fail p h (x ∷ xs) = rw (h x) (all_fail p h xs)

-- two tests that are one where a third passes
pub alike_within : {A : Type 0} (w p q : A → Bool) → ((x : A) → w x ≡ true → p x ≡ q x) → (xs : List A) → filter p (filter w xs) ≡ filter q (filter w xs)
alike_within w p q h [] = refl
alike_within w p q h (x ∷ xs) = at (w x) refl (alike_within w p q h xs)
  where
    at : (b : Bool) → w x ≡ b → filter p (filter w xs) ≡ filter q (filter w xs) → filter p (cond b (x ∷ filter w xs) (filter w xs)) ≡ filter q (cond b (x ∷ filter w xs) (filter w xs))
    at true e ih = rw (h x e, ih) refl
    at false e ih = ih
