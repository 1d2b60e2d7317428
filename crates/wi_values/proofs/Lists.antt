-- What each element of a list has, what some has, how many there are, and what one more is.
use Rattle.wi_values.proofs.Words.{◌≡◌, ◌∙◌, ℕ, zero, suc, ◌+◌, ◌<◌, ◌≤◌, Bool, true, false, cond, List, [], ◌∷◌, ◌++◌, length, get_or, slice_get, take, drop, filter, sum_by, All, refl, sym, ap, arith, or_parts, drop_more, take_more, sum_by-cons, Any, list_any}

module _ {X : Type 0} where
  -- ---- each and some

  -- where no element passes a test, each fails it
  pub each_fails : (p : X → Bool) (xs : List X) → list_any p xs ≡ false → All (λ x. p x ≡ false) xs
  each_fails p [] h k d l = absurd (omega arith)
  each_fails p (x ∷ xs) h zero d l = (or_parts (p x) (list_any p xs) h).0
  each_fails p (x ∷ xs) h (suc k) d l = each_fails p xs (or_parts (p x) (list_any p xs) h).1 k d (omega arith)

  -- what follows of each element follows of some
  pub Any-weaker : (P Q : X → Type 0) (xs : List X) → ((x : X) → P x → Q x) → Any P xs → Any Q xs
  Any-weaker P Q xs f h = (h.0, h.1, h.2, h.3, f h.1 h.4)

  -- a test that each element passes keeps all
  pub filter_all : (xs : List X) → filter (λ x. true) xs ≡ xs
  filter_all [] = refl
  filter_all (x ∷ xs) = ap (λ (ys : List X). x ∷ ys) (filter_all xs)

  -- ---- how many

  pub keeps_few : (p : X → Bool) (xs : List X) → length (filter p xs) ≤ length xs
  keeps_few p [] = omega arith
  keeps_few p (x ∷ xs) = at (p x) (keeps_few p xs)
    where
      at : (b : Bool) → length (filter p xs) ≤ length xs → length (cond b (x ∷ filter p xs) (filter p xs)) ≤ length (x ∷ xs)
      at true l = omega arith
      at false l = omega arith

  pub one_less : (xs ys : List X) (x : X) → xs ≡ x ∷ ys → length ys < length xs
  one_less xs ys x e = omega (arith, ap length e)

  pub sum_ones : (xs : List X) → sum_by (λ _. 1) xs ≡ length xs
  sum_ones [] = refl
  sum_ones (x ∷ xs) = let s = sum_by-cons (λ _. 1) x xs in omega (arith, s, sum_ones xs)

  -- ---- what stands in front of others

  pub got_in_front : (xs ys : List X) (i : ℕ) → i < length xs → slice_get (xs ++ ys) i ≡ slice_get xs i
  got_in_front [] ys i l = absurd (omega arith)
  got_in_front (x ∷ xs) ys zero l = refl
  got_in_front (x ∷ xs) ys (suc i) l = got_in_front xs ys i (omega (arith, l))

  -- ---- one more

  pub taken_more : (xs : List X) (i : ℕ) (x : X) → i < length xs → x ≡ get_or xs i x → take (i + 1) xs ≡ take i xs ++ x ∷ []
  taken_more xs i x l e = take_more xs i x l ∙ ap (λ (y : X). take i xs ++ y ∷ []) (sym e)

  pub left_more : (xs : List X) (i : ℕ) (x : X) → i < length xs → x ≡ get_or xs i x → drop i xs ≡ x ∷ drop (i + 1) xs
  left_more xs i x l e = drop_more xs i x l ∙ ap (λ (y : X). y ∷ drop (i + 1) xs) (sym e)
