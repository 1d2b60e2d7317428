-- What a walk along one row or one column has found is the place that is asked for.
use Rattle.wi_lookup_functions.proofs.Words.{◌≡◌, ℕ, suc, ◌<◌, ◌+◌, Bool, true, false, cond, List, [], ◌∷◌, map, filter, length, Option, Some, None, IfSome, Ok, Err, refl, sym, ap, ◌∙◌, subst, arith, nat_lt, ok_or, option_map, position, position_or_len, enumerate_from, last_or, is_eq, is_le, is_ge, ltb-true, length-map, Area, cells_of, NotAvailable, Value, known_agrees, taken_for_known, is_match, Rule, FirstEqual, LastAtMost, LastAtLeast, WhateverHeld, is_line, steps, position_by}
use Rattle.wi_arguments.specs.First.{IsFirstEqual}
use Rattle.wi_lookup_functions.specs.Inner.Search.{HasFound}
use Rattle.wi_lookup_functions.proofs.Lines.{line_numbered}
use Rattle.wi_lookup_functions.proofs.Searches.{found_first, search_finds}

-- ---- a place that is found is one of the list

first_within : (test : Value → Bool) (vs : List Value) (i : ℕ) → position test vs ≡ Some i → i < length vs
first_within test vs i h = at (nat_lt (position_or_len test vs) (length vs)) refl h
  where
    at : (b : Bool) → nat_lt (position_or_len test vs) (length vs) ≡ b → cond b (Some (position_or_len test vs)) None ≡ Some i → i < length vs
    at true e k = let same : position_or_len test vs ≡ i = cc in subst (λ (j : ℕ). j < length vs) same (ltb-true (position_or_len test vs) (length vs) e)
    at false e k = cc

last_within : (test : Value → Bool) (n : ℕ) (o : Option ℕ) (vs : List Value) (i : ℕ) → IfSome o (λ j. j < n) → last_or o (map (λ p. p.0) (filter (λ p. test p.1) (enumerate_from n vs))) ≡ Some i → i < n + length vs
last_within test n None [] i b h = cc
last_within test n (Some j) [] i b h = let same : j ≡ i = cc in omega (arith, b)
last_within test n o (v ∷ vs) i b h = at (test v) (λ p c k. omega (arith, last_within test (n + 1) p vs i c k)) h
  where
    wider : (p : Option ℕ) → IfSome p (λ j. j < n) → IfSome p (λ j. j < n + 1)
    wider None c = tt
    wider (Some j) c = omega (arith, c)

    at : (d : Bool) → ((p : Option ℕ) → IfSome p (λ j. j < n + 1) → last_or p (map (λ q. q.0) (filter (λ q. test q.1) (enumerate_from (n + 1) vs))) ≡ Some i → i < n + suc (length vs)) →
        last_or o (map (λ q. q.0) (cond d ((n, v) ∷ filter (λ q. test q.1) (enumerate_from (n + 1) vs)) (filter (λ q. test q.1) (enumerate_from (n + 1) vs)))) ≡ Some i → i < n + suc (length vs)
    at true k e = k (Some n) (omega arith) e
    at false k e = k o (wider o b) e

position_within : (rule : Rule) (sought : Value) (vs : List Value) (i : ℕ) → position_by rule sought vs ≡ Some i → i < length vs
position_within FirstEqual sought vs i h = first_within (is_match is_eq sought) vs i h
position_within LastAtMost sought vs i h = let l : i < 0 + length vs = last_within (is_match is_le sought) 0 None vs i tt h in omega (arith, l)
position_within LastAtLeast sought vs i h = let l : i < 0 + length vs = last_within (is_match is_ge sought) 0 None vs i tt h in omega (arith, l)

-- ---- the end of a walk

place_is : (known : ℕ → Option Value) (r : Area) (rule : Rule) (sought : Value) (found : Option ℕ) → is_line r ≡ true → HasFound known r rule sought found → WhateverHeld known (λ cells. position_by rule sought (map cells (cells_of r)) ≡ option_map (steps r) found)
place_is known r rule sought found l h = λ cells a. sym (search_finds sought cells (steps r) rule (cells_of r) (line_numbered r l)) ∙ ap (option_map (steps r)) (sym (h cells a))

pub place_found : (known : ℕ → Option Value) (r : Area) (rule : Rule) (sought : Value) (found : Option ℕ) (c : ℕ) → is_line r ≡ true → HasFound known r rule sought found → found ≡ Some c → WhateverHeld known (λ cells. ok_or (position_by rule sought (map cells (cells_of r))) NotAvailable ≡ Ok (steps r c))
place_found known r rule sought found c l h e = λ cells a. ap (λ (o : Option ℕ). ok_or o NotAvailable) (place_is known r rule sought found l h cells a ∙ ap (option_map (steps r)) e)

pub place_none : (known : ℕ → Option Value) (r : Area) (rule : Rule) (sought : Value) (found : Option ℕ) → is_line r ≡ true → HasFound known r rule sought found → found ≡ None → WhateverHeld known (λ cells. ok_or (position_by rule sought (map cells (cells_of r))) NotAvailable ≡ Err NotAvailable)
place_none known r rule sought found l h e = λ cells a. ap (λ (o : Option ℕ). ok_or o NotAvailable) (place_is known r rule sought found l h cells a ∙ ap (option_map (steps r)) e)

pub place_within : (known : ℕ → Option Value) (r : Area) (rule : Rule) (sought : Value) (found : Option ℕ) (c : ℕ) → is_line r ≡ true → HasFound known r rule sought found → found ≡ Some c → steps r c < length (cells_of r)
place_within known r rule sought found c l h e =
    subst (λ (n : ℕ). steps r c < n) (length-map (cells_of r) (taken_for_known known))
    (position_within rule sought (map (taken_for_known known) (cells_of r)) (steps r c)
    (place_is known r rule sought found l h (taken_for_known known) (known_agrees known) ∙ ap (option_map (steps r)) e))

-- what is told of the first equal one is what a search for it finds
pub told_found : (known : ℕ → Option Value) (r : Area) (rule : Rule) (sought : Value) (told : Option (Option ℕ)) → rule ≡ FirstEqual → IfSome told (IsFirstEqual known r sought) → IfSome told (HasFound known r rule sought)
told_found known r rule sought None e h = tt
told_found known r rule sought (Some found) e h = subst (λ (q : Rule). HasFound known r q sought found) (sym e) (λ cells a. h cells a ∙ sym (found_first sought cells (steps r) (cells_of r)))
