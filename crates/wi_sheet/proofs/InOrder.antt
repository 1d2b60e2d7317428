-- A list of cells in order, from one of them on.
use Rattle.wi_sheet.proofs.Words.{◌≡◌, ℕ, suc, ◌<◌, ◌≤◌, Bool, true, false, cond, List, [], ◌∷◌, length, get_or, filter, Some, None, refl, ap, subst, arith, nat_le, nat_lt, find, AllPairs, leb-true, le-leb, lt-ltb, le-ltb}

abbrev Above : ℕ → List ℕ → Type 0
Above x [] = Unit {0}
Above x (y ∷ ys) = (x < y) × Above x ys

above_from : (x : ℕ) (ys : List ℕ) → ((k d : ℕ) → k < length ys → x < get_or ys k d) → Above x ys
above_from x [] h = tt
above_from x (y ∷ ys) h = (h 0 0 (omega arith), above_from x ys (λ k d w. h (suc k) d (omega arith)))

-- all that come after x come at or after f, where x does
both_pass : (f x : ℕ) (ys : List ℕ) → f ≤ x → Above x ys → filter (nat_le f) ys ≡ filter (nat_lt x) ys
both_pass f x [] l h = refl
both_pass f x (y ∷ ys) l h = rw (le-leb f y (omega (arith, h.0)), lt-ltb x y h.0, both_pass f x ys l h.1) refl

found_above : (f c x : ℕ) (ys : List ℕ) → Above x ys → find (nat_le f) ys ≡ Some c → x < c
found_above f c x [] h k = absurd (let z = k in cc)
found_above f c x (y ∷ ys) h k = at (nat_le f y) k (found_above f c x ys h.1)
  where
    at : (b : Bool) → cond b (Some y) (find (nat_le f) ys) ≡ Some c → (find (nat_le f) ys ≡ Some c → x < c) → x < c
    at true k ih = let same : y ≡ c = cc in subst (λ (n : ℕ). x < n) same h.0
    at false k ih = ih k

-- those from f on are the first of them and those after it
pub from_first : (f c : ℕ) (xs : List ℕ) → AllPairs (λ x y. x < y) xs → find (nat_le f) xs ≡ Some c → filter (nat_le f) xs ≡ c ∷ filter (nat_lt c) xs
from_first f c [] p h = absurd (let z = h in cc)
from_first f c (x ∷ xs) p h = at (nat_le f x) refl h (from_first f c xs (λ i j d lt w. p (suc i) (suc j) d (omega arith) (omega arith)))
  where
    above : Above x xs
    above = above_from x xs (λ k d w. p 0 (suc k) d (omega arith) (omega arith))

    at : (b : Bool) → nat_le f x ≡ b → cond b (Some x) (find (nat_le f) xs) ≡ Some c → (find (nat_le f) xs ≡ Some c → filter (nat_le f) xs ≡ c ∷ filter (nat_lt c) xs) →
        cond b (x ∷ filter (nat_le f) xs) (filter (nat_le f) xs) ≡ c ∷ cond (nat_lt c x) (x ∷ filter (nat_lt c) xs) (filter (nat_lt c) xs)
    at true e k ih =
        let same : x ≡ c = cc in
        subst (λ (n : ℕ). x ∷ filter (nat_le f) xs ≡ n ∷ cond (nat_lt n x) (x ∷ filter (nat_lt n) xs) (filter (nat_lt n) xs)) same
        (rw (le-ltb x x (omega arith)) (ap (λ (zs : List ℕ). x ∷ zs) (both_pass f x xs (leb-true f x e) above)))
    at false e k ih = rw (le-ltb c x (omega (arith, found_above f c x xs above k))) (ih k)

pub none_pass : (p : ℕ → Bool) (xs : List ℕ) → find p xs ≡ None → filter p xs ≡ []
none_pass p [] h = refl
none_pass p (x ∷ xs) h = at (p x) h (none_pass p xs)
  where
    at : (b : Bool) → cond b (Some x) (find p xs) ≡ None → (find p xs ≡ None → filter p xs ≡ []) → cond b (x ∷ filter p xs) (filter p xs) ≡ []
    at true k ih = absurd (let z = k in cc)
    at false k ih = ih k
