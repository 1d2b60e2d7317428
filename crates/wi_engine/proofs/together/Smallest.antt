-- The smallest of those in a list that pass a test.
use Rattle.wi_engine.proofs.Words.{◌≡◌, ◌≤◌, ◌||◌, ◌⊎◌, inl, inr, ℕ, Bool, true, false, List, [], ◌∷◌, drop, length, Option, Some, None, IfSome, refl, ap, sym, ◌∙◌, subst, arith, true≢false, if◌then◌else◌, nat_lt, list_any, drop_of_length-le, ltb-true, ltb-false, IfSome_then, Area, is_within, size_of, IsIn, in_contained, contains_in, IsSmallestWith}

-- the smaller of what is kept and another, the kept one where they are equal
abbrev lesser : (Area → ℕ) → Option Area → Area → Area
lesser n None x = x
lesser n (Some k) x = if nat_lt (n x) (n k) then x else k

-- the smallest of what is kept and of those in a list that pass
abbrev pub least_from : (Area → Bool) → (Area → ℕ) → Option Area → List Area → Option Area
least_from p n kept [] = kept
least_from p n kept (x ∷ xs) = if p x then least_from p n (Some (lesser n kept x)) xs else least_from p n kept xs

record IsLesser (n : Area → ℕ) (kept : Option Area) (x l : Area) : Type 0 where
  pub one : (kept ≡ Some l) ⊎ (x ≡ l)
  pub first : n l ≤ n x
  pub below : IfSome kept (λ k. n l ≤ n k)

lesser_is : (n : Area → ℕ) (kept : Option Area) (x : Area) → IsLesser n kept x (lesser n kept x)
lesser_is n None x = record { one = inr refl; first = omega arith; below = tt }
lesser_is n (Some k) x = at (nat_lt (n x) (n k)) refl
  where
    at : (b : Bool) → nat_lt (n x) (n k) ≡ b → IsLesser n (Some k) x (if b then x else k)
    at true e = record { one = inr refl; first = omega arith; below = let l = ltb-true (n x) (n k) e in omega (arith, l) }
    at false e = record { one = inl refl; first = ltb-false (n x) (n k) e; below = omega arith }

-- it is what was kept, or one of those that pass, and none of these is smaller
record IsLeast (p : Area → Bool) (n : Area → ℕ) (kept : Option Area) (xs : List Area) (l : Area) : Type 0 where
  pub one : (kept ≡ Some l) ⊎ (IsIn xs l × (p l ≡ true))
  pub least : (o : Area) → IsIn xs o → p o ≡ true → n l ≤ n o
  pub below : IfSome kept (λ k. n l ≤ n k)

least_is : (p : Area → Bool) (n : Area → ℕ) (kept : Option Area) (xs : List Area) (l : Area) → least_from p n kept xs ≡ Some l → IsLeast p n kept xs l
least_is p n kept [] l h = record { one = inl h; least = λ o m t. absurd m; below = subst (λ (o : Option Area). IfSome o (λ k. n l ≤ n k)) (sym h) (omega arith) }
least_is p n kept (x ∷ xs) l h = at (p x) refl h (least_is p n (Some (lesser n kept x)) xs l) (least_is p n kept xs l)
  where
    lesser_here : IsLesser n kept x (lesser n kept x)
    lesser_here = lesser_is n kept x

    which : p x ≡ true → (kept ≡ Some l) ⊎ (x ≡ l) → (kept ≡ Some l) ⊎ (IsIn (x ∷ xs) l × (p l ≡ true))
    which e (inl k) = inl k
    which e (inr k) = inr (inl k, ap p (sym k) ∙ e)

    one : p x ≡ true → (Some (lesser n kept x) ≡ Some l) ⊎ (IsIn xs l × (p l ≡ true)) → (kept ≡ Some l) ⊎ (IsIn (x ∷ xs) l × (p l ≡ true))
    one e (inl k) = let same : lesser n kept x ≡ l = cc in which e (subst (λ (y : Area). IsLesser n kept x y) same lesser_here).one
    one e (inr k) = inr (inr k.0, k.1)

    no_more : n l ≤ n (lesser n kept x) → ((o : Area) → IsIn xs o → p o ≡ true → n l ≤ n o) → (o : Area) → IsIn (x ∷ xs) o → p o ≡ true → n l ≤ n o
    no_more low rest o (inl same) t = let size : n x ≡ n o = ap n same in let first = lesser_here.first in omega (arith, low, first, size)
    no_more low rest o (inr m) t = rest o m t

    skipped : p x ≡ false → ((o : Area) → IsIn xs o → p o ≡ true → n l ≤ n o) → (o : Area) → IsIn (x ∷ xs) o → p o ≡ true → n l ≤ n o
    skipped e rest o (inl same) t = absurd (true≢false (sym t ∙ ap p (sym same) ∙ e))
    skipped e rest o (inr m) t = rest o m t

    also : (kept ≡ Some l) ⊎ (IsIn xs l × (p l ≡ true)) → (kept ≡ Some l) ⊎ (IsIn (x ∷ xs) l × (p l ≡ true))
    also (inl k) = inl k
    also (inr k) = inr (inr k.0, k.1)

    at : (b : Bool) → p x ≡ b → (if b then least_from p n (Some (lesser n kept x)) xs else least_from p n kept xs) ≡ Some l → (least_from p n (Some (lesser n kept x)) xs ≡ Some l → IsLeast p n (Some (lesser n kept x)) xs l) →
        (least_from p n kept xs ≡ Some l → IsLeast p n kept xs l) → IsLeast p n kept (x ∷ xs) l
    at true e k here beside =
        let i = here k in
        let low : n l ≤ n (lesser n kept x) = i.below in
        record { one = one e i.one; least = no_more low i.least; below = IfSome_then kept lesser_here.below (λ y m. omega (arith, m, low)) }
    at false e k here beside = let i = beside k in record { one = also i.one; least = skipped e i.least; below = i.below }

-- ---- rectangles

pub smallest : (rs : List Area) (a : ℕ) (r : Area) → least_from (λ (o : Area). is_within o a) size_of None rs ≡ Some r → IsSmallestWith rs a r
smallest rs a r h =
    let l : IsLeast (λ (o : Area). is_within o a) size_of None rs r = least_is (λ (o : Area). is_within o a) size_of None rs r h in
    let one = of l.one in
    record { one_of = contains_in rs r one.0; holds = one.1; least = λ o m t. l.least o (in_contained rs o m) t }
  where
    of : (None ≡ Some r) ⊎ (IsIn rs r × (is_within r a ≡ true)) → IsIn rs r × (is_within r a ≡ true)
    of (inl k) = absurd (let z = k in cc)
    of (inr k) = k

-- where none is found none passes
none_least : (p : Area → Bool) (n : Area → ℕ) (kept : Option Area) (xs : List Area) → least_from p n kept xs ≡ None → (kept ≡ None) × (list_any p xs ≡ false)
none_least p n kept [] h = (h, refl)
none_least p n kept (x ∷ xs) h = at (p x) h (none_least p n (Some (lesser n kept x)) xs) (none_least p n kept xs)
  where
    at : (b : Bool) → (if b then least_from p n (Some (lesser n kept x)) xs else least_from p n kept xs) ≡ None → (least_from p n (Some (lesser n kept x)) xs ≡ None → (Some (lesser n kept x) ≡ None) × (list_any p xs ≡ false)) →
        (least_from p n kept xs ≡ None → (kept ≡ None) × (list_any p xs ≡ false)) → (kept ≡ None) × ((b || list_any p xs) ≡ false)
    at true k here beside = absurd (let z = (here k).0 in cc)
    at false k here beside = beside k

pub some_least : (p : Area → Bool) (n : Area → ℕ) (xs : List Area) → list_any p xs ≡ true → least_from p n None xs ≡ None → ⊥
some_least p n xs e h = true≢false (sym e ∙ (none_least p n None xs h).1)

-- what is kept after all is the smallest of all
pub after_all : (p : Area → Bool) (n : Area → ℕ) (xs : List Area) (i : ℕ) (kept : Option Area) → length xs ≤ i
    → least_from p n kept (drop i xs) ≡ least_from p n None xs → least_from p n None xs ≡ kept
after_all p n xs i kept h e = sym e ∙ ap (least_from p n kept) (drop_of_length-le xs h)
