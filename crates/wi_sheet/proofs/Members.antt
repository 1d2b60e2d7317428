-- What is in a list, and in lists made of it.
use Rattle.wi_sheet.proofs.Words.{◌≡◌, ◌<◌, ◌⊎◌, inl, inr, ℕ, zero, suc, Bool, true, false, cond, List, [], ◌∷◌, ◌++◌, filter, map, length, get_or, Any, Contains, refl, ap, sym, ◌∙◌, subst, arith, list_any, flat_map, Any-from_list_any, list_any_at}

-- by recursion on the list
abbrev pub IsIn : {X : Type 0} → List X → X → Type 0
IsIn [] k = ⊥
IsIn (x ∷ xs) k = (x ≡ k) ⊎ IsIn xs k

in_at : {X : Type 0} (xs : List X) (k : X) (i : ℕ) → i < length xs → get_or xs i k ≡ k → IsIn xs k
in_at [] k i h e = absurd (omega arith)
in_at (x ∷ xs) k zero h e = inl e
in_at (x ∷ xs) k (suc i) h e = inr (in_at xs k i (omega arith) e)

pub in_contained : {X : Type 0} (xs : List X) (k : X) → Contains xs k → IsIn xs k
in_contained xs k h = in_at xs k h.0 h.1 h.2

pub contains_in : {X : Type 0} (xs : List X) (k : X) → IsIn xs k → Contains xs k
contains_in [] k h = absurd h
contains_in (x ∷ xs) k (inl e) = (0, omega arith, e)
contains_in (x ∷ xs) k (inr h) =
    let c = contains_in xs k h in
    let l = c.1 in
    (suc c.0, omega (arith, l), c.2)

pub in_left : {X : Type 0} (xs ys : List X) (k : X) → IsIn xs k → IsIn (xs ++ ys) k
in_left [] ys k h = absurd h
in_left (x ∷ xs) ys k (inl e) = inl e
in_left (x ∷ xs) ys k (inr h) = inr (in_left xs ys k h)

pub in_right : {X : Type 0} (xs ys : List X) (k : X) → IsIn ys k → IsIn (xs ++ ys) k
in_right [] ys k h = h
in_right (x ∷ xs) ys k h = inr (in_right xs ys k h)

pub in_either : {X : Type 0} (xs ys : List X) (k : X) → IsIn (xs ++ ys) k → IsIn xs k ⊎ IsIn ys k
in_either [] ys k h = inr h
in_either (x ∷ xs) ys k (inl e) = inl (inl e)
in_either (x ∷ xs) ys k (inr h) = elim (in_either xs ys k h) [ inl a ↦ inl (inr a) | inr b ↦ inr b ]

pub in_map : {X Y : Type 0} (f : X → Y) (xs : List X) (x : X) → IsIn xs x → IsIn (map f xs) (f x)
in_map f [] x h = absurd h
in_map f (y ∷ xs) x (inl e) = inl (ap f e)
in_map f (y ∷ xs) x (inr h) = inr (in_map f xs x h)

pub of_map : {X Y : Type 0} (f : X → Y) (xs : List X) (k : Y) → IsIn (map f xs) k → (x : X) × IsIn xs x × (f x ≡ k)
of_map f [] k h = absurd h
of_map f (y ∷ xs) k (inl e) = (y, inl refl, e)
of_map f (y ∷ xs) k (inr h) = let r = of_map f xs k h in (r.0, inr r.1, r.2)

pub in_flat : {X Y : Type 0} (f : X → List Y) (xs : List X) (x : X) (k : Y) → IsIn xs x → IsIn (f x) k → IsIn (flat_map f xs) k
in_flat f [] x k h i = absurd h
in_flat f (y ∷ xs) x k (inl e) i = in_left (f y) (flat_map f xs) k (subst (λ z. IsIn (f z) k) (sym e) i)
in_flat f (y ∷ xs) x k (inr h) i = in_right (f y) (flat_map f xs) k (in_flat f xs x k h i)

pub of_flat : {X Y : Type 0} (f : X → List Y) (xs : List X) (k : Y) → IsIn (flat_map f xs) k → (x : X) × IsIn xs x × IsIn (f x) k
of_flat f [] k h = absurd h
of_flat f (y ∷ xs) k h =
    elim (in_either (f y) (flat_map f xs) k h) [ inl a ↦ (y, inl refl, a) | inr b ↦ (let r = of_flat f xs k b in (r.0, inr r.1, r.2)) ]

pub in_filter : {X : Type 0} (t : X → Bool) (xs : List X) (x : X) → IsIn xs x → t x ≡ true → IsIn (filter t xs) x
in_filter t [] x h e = absurd h
in_filter t (y ∷ xs) x (inl k) e = rw (ap t k ∙ e) (inl k)
in_filter t (y ∷ xs) x (inr h) e = at (t y) (in_filter t xs x h e)
  where
    at : (b : Bool) → IsIn (filter t xs) x → IsIn (cond b (y ∷ filter t xs) (filter t xs)) x
    at true i = inr i
    at false i = i

pub of_filter : {X : Type 0} (t : X → Bool) (xs : List X) (x : X) → IsIn (filter t xs) x → IsIn xs x × (t x ≡ true)
of_filter t [] x h = absurd h
of_filter t (y ∷ xs) x h = at (t y) refl h (of_filter t xs x)
  where
    at : (b : Bool) → t y ≡ b → IsIn (cond b (y ∷ filter t xs) (filter t xs)) x → (IsIn (filter t xs) x → IsIn xs x × (t x ≡ true)) → IsIn (y ∷ xs) x × (t x ≡ true)
    at true e (inl k) ih = (inl k, sym (ap t k) ∙ e)
    at true e (inr i) ih = (inr (ih i).0, (ih i).1)
    at false e i ih = (inr (ih i).0, (ih i).1)

-- functions that agree on a list's elements make one list of it
pub flat_same : {X Y : Type 0} (f g : X → List Y) (xs : List X) → ((x : X) → IsIn xs x → f x ≡ g x) → flat_map f xs ≡ flat_map g xs
flat_same f g [] h = refl
flat_same {Y} f g (x ∷ xs) h =
    ap (λ (ys : List Y). ys ++ flat_map f xs) (h x (inl refl)) ∙ ap (λ (ys : List Y). g x ++ ys) (flat_same f g xs (λ y i. h y (inr i)))

pub map_same : {X Y : Type 0} (f g : X → Y) (xs : List X) → ((x : X) → IsIn xs x → f x ≡ g x) → map f xs ≡ map g xs
map_same f g [] h = refl
map_same {Y} f g (x ∷ xs) h = ap (λ (y : Y). y ∷ map f xs) (h x (inl refl)) ∙ ap (λ (ys : List Y). g x ∷ ys) (map_same f g xs (λ y i. h y (inr i)))

-- what holds of some element holds of one that is in the list
pub of_any : {X : Type 0} (P : X → Type 0) (xs : List X) → Any P xs → (x : X) × IsIn xs x × P x
of_any P xs a = (a.1, in_contained xs a.1 (a.0, a.2, a.3), a.4)

-- ---- tests of a list's elements

-- one that passes is found
pub found_in : {X : Type 0} (p : X → Bool) (xs : List X) (x : X) → IsIn xs x → p x ≡ true → list_any p xs ≡ true
found_in p xs x i h = let c = contains_in xs x i in list_any_at p xs c.0 x c.1 (ap p c.2 ∙ h)

-- what passes a stronger test
pub more_pass : {X : Type 0} (p q : X → Bool) → ((x : X) → p x ≡ true → q x ≡ true) → (xs : List X) → list_any p xs ≡ true → list_any q xs ≡ true
more_pass p q f xs h = let a = Any-from_list_any p xs h in list_any_at q xs a.0 a.1 a.2 (ap q a.3 ∙ f a.1 a.4)
