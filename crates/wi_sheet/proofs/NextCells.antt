-- A search through the occupied cells of a rectangle, from one to the next.
use Rattle.wi_sheet.proofs.Words.{◌≡◌, ℕ, suc, ◌+◌, ◌-◌, ◌<◌, ◌≤◌, Bool, true, false, ◌||◌, cond, List, [], ◌∷◌, ◌++◌, filter, take, Option, Some, None, IfSome, IfNone, refl, sym, ap, ◌∙◌, arith, append_assoc, append-nil, nat_le, find, list_any, IsStrictlyIncreasing, keys_of, take-nil, list_any-append, AllPairs-from_increasing, IsStrictlyIncreasing-filter, Area, is_within, Sheet, is_after, cells_after, occupied_within}
use Rattle.wi_sheet.proofs.Filters.{alike_within, all_pass, all_fail}
use Rattle.wi_sheet.proofs.InOrder.{from_first, none_pass}

-- ---- the next one after the one last looked at

module _ (s : Sheet) (r : Area) (after : Option ℕ) where
  -- where from a cell on those come that come after it, it is the first from there
  module _ (from : ℕ) (alike : (a : ℕ) → is_within r a ≡ true → is_after after a ≡ nat_le from a) where
    pub next_if_some : (o : Option ℕ) → IsStrictlyIncreasing (keys_of s) → o ≡ find (λ a. nat_le from a) (filter (is_within r) (keys_of s)) → IfSome o (λ c. cells_after s r after ≡ c ∷ cells_after s r (Some c))
    next_if_some None asc h = tt
    next_if_some (Some c) asc h =
        alike_within (is_within r) (is_after after) (nat_le from) alike (keys_of s)
        ∙ from_first from c (filter (is_within r) (keys_of s)) (AllPairs-from_increasing _ (IsStrictlyIncreasing-filter (is_within r) (keys_of s) asc)) (sym h)

    pub next_if_none : (o : Option ℕ) → o ≡ find (λ a. nat_le from a) (filter (is_within r) (keys_of s)) → IfNone o (cells_after s r after ≡ [])
    next_if_none None h =
        alike_within (is_within r) (is_after after) (nat_le from) alike (keys_of s) ∙ none_pass (nat_le from) (filter (is_within r) (keys_of s)) (sym h)
    next_if_none (Some c) h = tt

  -- and where none comes after it, there is none
  pub none_after : (o : Option ℕ) → ((a : ℕ) → is_within r a ≡ true → is_after after a ≡ false) → IfNone o (cells_after s r after ≡ [])
  none_after None h = alike_within (is_within r) (is_after after) (λ a. false) h (keys_of s) ∙ all_fail (λ a. false) (λ a. refl) (filter (is_within r) (keys_of s))
  none_after (Some c) h = tt

-- ---- those that are still to be looked at, the next one first

abbrev pub from_next : Sheet → Area → Option ℕ → List ℕ
from_next s r None = []
from_next s r (Some c) = c ∷ cells_after s r (Some c)

-- what comes after a cell is the next one and what comes after that
pub next_is_from : (s : Sheet) (r : Area) (after next : Option ℕ) → IfSome next (λ c. cells_after s r after ≡ c ∷ cells_after s r (Some c)) → IfNone next (cells_after s r after ≡ []) →
    from_next s r next ≡ cells_after s r after
next_is_from s r after None some none = sym none
next_is_from s r after (Some c) some none = sym some

-- before one was looked at these are all
pub all_after : (s : Sheet) (r : Area) → cells_after s r None ≡ filter (is_within r) (keys_of s)
all_after s r = all_pass (is_after None) (λ a. refl) (filter (is_within r) (keys_of s))

pub next_is_first : (s : Sheet) (r : Area) (next : Option ℕ) → IfSome next (λ c. cells_after s r None ≡ c ∷ cells_after s r (Some c)) → IfNone next (cells_after s r None ≡ []) → from_next s r next ≡ filter (is_within r) (keys_of s)
next_is_first s r next some none = next_is_from s r None next some none ∙ all_after s r

-- one of rectangles has an occupied cell that passes a test
pub any_within : (s : Sheet) (p : ℕ → Bool) (rs : List Area) → list_any p (occupied_within s rs) ≡ list_any (λ (r : Area). list_any p (filter (is_within r) (keys_of s))) rs
any_within s p [] = refl
any_within s p (r ∷ rs) =
    list_any-append p (filter (is_within r) (keys_of s)) (occupied_within s rs) ∙ ap (λ (b : Bool). list_any p (filter (is_within r) (keys_of s)) || b) (any_within s p rs)

-- ---- those of them that pass a test

-- after a cell
abbrev pub passing_after : (ℕ → Bool) → Sheet → Area → ℕ → List ℕ
passing_after p s r a = filter p (cells_after s r (Some a))

-- of the cells that are still to be looked at
abbrev pub passing_from : (ℕ → Bool) → Sheet → Area → Option ℕ → List ℕ
passing_from p s r o = filter p (from_next s r o)

module _ (p : ℕ → Bool) (s : Sheet) (r : Area) (after : ℕ) where
  -- before one was looked at
  pub first_passing : (next : Option ℕ) → IfSome next (λ c. cells_after s r (Some after) ≡ c ∷ cells_after s r (Some c)) → IfNone next (cells_after s r (Some after) ≡ []) → passing_from p s r next ≡ passing_after p s r after
  first_passing next some none = ap (filter p) (next_is_from s r (Some after) next some none)

  at_cell : (c : ℕ) (b : Bool) (ahead : Option ℕ) → ahead ≡ Some c → passing_from p s r ahead ≡ passing_after p s r after → p c ≡ b → cond b (c ∷ passing_after p s r c) (passing_after p s r c) ≡ passing_after p s r after
  at_cell c b ahead e i h = ap (λ (d : Bool). cond d (c ∷ passing_after p s r c) (passing_after p s r c)) (sym h) ∙ ap (passing_from p s r) (sym e) ∙ i

  -- the cell looked at passes
  pub passes_here : (c : ℕ) (ahead : Option ℕ) → ahead ≡ Some c → passing_from p s r ahead ≡ passing_after p s r after → p c ≡ true → passing_after p s r after ≡ c ∷ passing_after p s r c
  passes_here c ahead e i h = sym (at_cell c true ahead e i h)

  -- it doesn't, and the search goes on behind it
  pub passes_beyond : (c : ℕ) (ahead next : Option ℕ) → ahead ≡ Some c → passing_from p s r ahead ≡ passing_after p s r after → p c ≡ false →
      IfSome next (λ d. cells_after s r (Some c) ≡ d ∷ cells_after s r (Some d)) → IfNone next (cells_after s r (Some c) ≡ []) → passing_from p s r next ≡ passing_after p s r after
  passes_beyond c ahead next e i h some none = ap (filter p) (next_is_from s r (Some c) next some none) ∙ at_cell c false ahead e i h

  pub none_left : (ahead : Option ℕ) → ahead ≡ None → passing_from p s r ahead ≡ passing_after p s r after → passing_after p s r after ≡ []
  none_left ahead e i = sym i ∙ ap (passing_from p s r) e

-- ---- a list of them

module _ (p : ℕ → Bool) (s : Sheet) (r : Area) where
  -- one is listed
  pub listed_first : (old new : List ℕ) (a more : ℕ) → old ≡ [] → new ≡ old ++ a ∷ [] → new ++ take more (passing_after p s r a) ≡ a ∷ take more (passing_after p s r a)
  listed_first old new a more o e = ap (λ (xs : List ℕ). xs ++ take more (passing_after p s r a)) (e ∙ ap (λ (xs : List ℕ). xs ++ a ∷ []) o)

  -- one more is listed
  pub listed_on : (all listed new : List ℕ) (last next more i : ℕ) → i < more → new ≡ listed ++ next ∷ [] → passing_after p s r last ≡ next ∷ passing_after p s r next →
      listed ++ take (more - i) (passing_after p s r last) ≡ all → new ++ take (more - (i + 1)) (passing_after p s r next) ≡ all
  listed_on all listed new last next more i l e f h =
      let cut : more - i ≡ suc (more - (i + 1)) = omega (arith, l) in
      ap (λ (xs : List ℕ). xs ++ take (more - (i + 1)) (passing_after p s r next)) e
      ∙ append_assoc listed (next ∷ []) (take (more - (i + 1)) (passing_after p s r next))
      ∙ ap (λ (n : ℕ). listed ++ take n (next ∷ passing_after p s r next)) (sym cut)
      ∙ ap (λ (xs : List ℕ). listed ++ take (more - i) xs) (sym f)
      ∙ h

  -- none is left
  pub listed_all : (all listed : List ℕ) (last n : ℕ) → passing_after p s r last ≡ [] → listed ++ take n (passing_after p s r last) ≡ all → listed ≡ all
  listed_all all listed last n f h =
      sym (append-nil listed) ∙ ap (λ (xs : List ℕ). listed ++ xs) (sym (take-nil n)) ∙ ap (λ (xs : List ℕ). listed ++ take n xs) (sym f) ∙ h

  -- as many are listed as are wanted
  pub listed_enough : (all listed : List ℕ) (last more i : ℕ) → more ≤ i → listed ++ take (more - i) (passing_after p s r last) ≡ all → listed ≡ all
  listed_enough all listed last more i l h =
      let none : more - i ≡ 0 = omega (arith, l) in
      sym (append-nil listed) ∙ ap (λ (n : ℕ). listed ++ take n (passing_after p s r last)) (sym none) ∙ h
