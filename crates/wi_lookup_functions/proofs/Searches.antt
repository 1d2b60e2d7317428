-- What a search through cells finds is the place that the definitions find in the list of their values.
use Rattle.wi_lookup_functions.proofs.Words.{◌≡◌, ℕ, suc, ◌+◌, Bool, true, false, cond, ◌&&◌, List, [], ◌∷◌, map, filter, fold, length, Option, Some, None, refl, sym, ap, ◌∙◌, arith, nat_lt, pos, int_lt, option_map, position, position_or_len, enumerate_from, last_or, int_eq, is_eq, is_le, is_ge, nat_tests, Value, is_match, last_position, match_position, type_for, Rule, FirstEqual, LastAtMost, LastAtLeast, found_after, position_by, rule_of_match_type, rule_in_order}
use Rattle.std.specs.List.{find}
use Rattle.wi_fraction.specs.Number as numbers

-- the items have these numbers, one after another
abbrev pub IsNumbered : (ℕ → ℕ) → ℕ → List ℕ → Type 0
IsNumbered number n [] = Unit {0}
IsNumbered number n (x ∷ xs) = (number x ≡ n) × IsNumbered number (n + 1) xs

one_more : (m n : ℕ) → nat_lt (1 + m) (suc n) ≡ nat_lt m n
one_more m n = at (nat_lt m n) refl
  where
    at : (b : Bool) → nat_lt m n ≡ b → nat_lt (1 + m) (suc n) ≡ b
    at true e = grind (arith, nat_tests)
    at false e = grind (arith, nat_tests)

front_is_within : (n : ℕ) → nat_lt 0 (suc n) ≡ true
front_is_within n = grind (arith, nat_tests)

-- the first that passes is the first item, or it is among the others
position_here : (test : Value → Bool) (v : Value) (vs : List Value) → test v ≡ true → position test (v ∷ vs) ≡ Some 0
position_here test v vs e = rw (e, front_is_within (length vs)) refl

position_later : (test : Value → Bool) (v : Value) (vs : List Value) (n : ℕ) → test v ≡ false → option_map (λ i. n + i) (position test (v ∷ vs)) ≡ option_map (λ i. (n + 1) + i) (position test vs)
position_later test v vs n e = rw (e, one_more (position_or_len test vs) (length vs)) (at (nat_lt (position_or_len test vs) (length vs)))
  where
    at : (b : Bool) → option_map (λ i. n + i) (cond b (Some (1 + position_or_len test vs)) None) ≡ option_map (λ i. (n + 1) + i) (cond b (Some (position_or_len test vs)) None)
    at true = let same : n + (1 + position_or_len test vs) ≡ (n + 1) + position_or_len test vs = omega arith in ap (λ (i : ℕ). Some i) same
    at false = refl

module _ (sought : Value) (cells : ℕ → Value) (number : ℕ → ℕ) where
  -- what is found among cells
  abbrev pub found_in : Rule → Option ℕ → List ℕ → Option ℕ
  found_in rule o xs = fold (λ p c. found_after rule sought p c (cells c)) o xs

  stays : (x : ℕ) (xs : List ℕ) → found_in FirstEqual (Some x) xs ≡ Some x
  stays x [] = refl
  stays x (z ∷ xs) = at (is_match is_eq sought (cells z)) (stays x xs)
    where
      at : (b : Bool) → found_in FirstEqual (Some x) xs ≡ Some x → found_in FirstEqual (cond (b && false) (Some z) (Some x)) xs ≡ Some x
      at true k = k
      at false k = k

  first_found : (n : ℕ) (xs : List ℕ) → IsNumbered number n xs → option_map number (found_in FirstEqual None xs) ≡ option_map (λ i. n + i) (position (is_match is_eq sought) (map cells xs))
  first_found n [] h = refl
  first_found n (x ∷ xs) h = at (is_match is_eq sought (cells x)) refl (first_found (n + 1) xs h.1)
    where
      here : n ≡ n + 0
      here = omega arith

      at : (b : Bool) → is_match is_eq sought (cells x) ≡ b → option_map number (found_in FirstEqual None xs) ≡ option_map (λ i. (n + 1) + i) (position (is_match is_eq sought) (map cells xs)) → option_map number (found_in FirstEqual (cond (b && true) (Some x) None) xs) ≡ option_map (λ i. n + i) (position (is_match is_eq sought) (cells x ∷ map cells xs))
      at true e k =
          ap (option_map number) (stays x xs) ∙ ap (λ (i : ℕ). Some i) (h.0 ∙ here)
          ∙ ap (option_map (λ i. n + i)) (sym (position_here (is_match is_eq sought) (cells x) (map cells xs) e))
      at false e k = k ∙ sym (position_later (is_match is_eq sought) (cells x) (map cells xs) n e)

  -- the first equal one is what a look for it finds
  pub found_first : (xs : List ℕ) → found_in FirstEqual None xs ≡ find (λ c. is_match is_eq sought (cells c)) xs
  found_first [] = refl
  found_first (x ∷ xs) = at (is_match is_eq sought (cells x)) (found_first xs)
    where
      at : (b : Bool) → found_in FirstEqual None xs ≡ find (λ c. is_match is_eq sought (cells c)) xs → found_in FirstEqual (cond (b && true) (Some x) None) xs ≡ cond b (Some x) (find (λ c. is_match is_eq sought (cells c)) xs)
      at true k = stays x xs
      at false k = k

  -- the numbers of the values that pass
  abbrev numbers_passing : (Value → Bool) → ℕ → List Value → List ℕ
  numbers_passing test n vs = map (λ p. p.0) (filter (λ p. test p.1) (enumerate_from n vs))

  last_at_most : (n : ℕ) (o : Option ℕ) (xs : List ℕ) → IsNumbered number n xs → option_map number (found_in LastAtMost o xs) ≡ last_or (option_map number o) (numbers_passing (is_match is_le sought) n (map cells xs))
  last_at_most n o [] h = refl
  last_at_most n o (x ∷ xs) h = at (is_match is_le sought (cells x)) (λ p. last_at_most (n + 1) p xs h.1)
    where
      at : (b : Bool) → ((p : Option ℕ) → option_map number (found_in LastAtMost p xs) ≡ last_or (option_map number p) (numbers_passing (is_match is_le sought) (n + 1) (map cells xs))) → option_map number (found_in LastAtMost (cond (b && true) (Some x) o) xs) ≡ last_or (option_map number o) (map (λ p. p.0) (cond b ((n, cells x) ∷ filter (λ p. is_match is_le sought p.1) (enumerate_from (n + 1) (map cells xs))) (filter (λ p. is_match is_le sought p.1) (enumerate_from (n + 1) (map cells xs)))))
      at true k = k (Some x) ∙ ap (λ (i : ℕ). last_or (Some i) (numbers_passing (is_match is_le sought) (n + 1) (map cells xs))) h.0
      at false k = k o

  last_at_least : (n : ℕ) (o : Option ℕ) (xs : List ℕ) → IsNumbered number n xs → option_map number (found_in LastAtLeast o xs) ≡ last_or (option_map number o) (numbers_passing (is_match is_ge sought) n (map cells xs))
  last_at_least n o [] h = refl
  last_at_least n o (x ∷ xs) h = at (is_match is_ge sought (cells x)) (λ p. last_at_least (n + 1) p xs h.1)
    where
      at : (b : Bool) → ((p : Option ℕ) → option_map number (found_in LastAtLeast p xs) ≡ last_or (option_map number p) (numbers_passing (is_match is_ge sought) (n + 1) (map cells xs))) → option_map number (found_in LastAtLeast (cond (b && true) (Some x) o) xs) ≡ last_or (option_map number o) (map (λ p. p.0) (cond b ((n, cells x) ∷ filter (λ p. is_match is_ge sought p.1) (enumerate_from (n + 1) (map cells xs))) (filter (λ p. is_match is_ge sought p.1) (enumerate_from (n + 1) (map cells xs)))))
      at true k = k (Some x) ∙ ap (λ (i : ℕ). last_or (Some i) (numbers_passing (is_match is_ge sought) (n + 1) (map cells xs))) h.0
      at false k = k o

  from_zero : (o : Option ℕ) → option_map (λ i. 0 + i) o ≡ o
  from_zero None = refl
  from_zero (Some i) = let same : 0 + i ≡ i = omega arith in ap (λ (j : ℕ). Some j) same

  -- where the cells are numbered from 0 on, the number of the cell that is found is its place among the values
  pub search_finds : (rule : Rule) (xs : List ℕ) → IsNumbered number 0 xs → option_map number (found_in rule None xs) ≡ position_by rule sought (map cells xs)
  search_finds FirstEqual xs h = first_found 0 xs h ∙ from_zero (position (is_match is_eq sought) (map cells xs))
  search_finds LastAtMost xs h = last_at_most 0 None xs h
  search_finds LastAtLeast xs h = last_at_least 0 None xs h

-- the rules are those of match types
pub by_match_type : (x : numbers.Number) (sought : Value) (vs : List Value) → match_position x sought vs ≡ position_by (rule_of_match_type x) sought vs
by_match_type x sought vs = at (int_eq x.num (pos 0)) (int_lt x.num (pos 0))
  where
    at : (b l : Bool) → cond b (position (is_match is_eq sought) vs) (cond l (last_position (is_match is_ge sought) vs) (last_position (is_match is_le sought) vs)) ≡ position_by (cond b FirstEqual (cond l LastAtLeast LastAtMost)) sought vs
    at true l = refl
    at false true = refl
    at false false = refl

pub by_order : (in_order : Bool) (sought : Value) (vs : List Value) → match_position (type_for in_order) sought vs ≡ position_by (rule_in_order in_order) sought vs
by_order true sought vs = refl
by_order false sought vs = refl
