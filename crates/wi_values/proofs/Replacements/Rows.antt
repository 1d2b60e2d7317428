-- Replacements worked by hand.
use Rattle.wi_values.proofs.Words.{◌≡◌, ℕ, true, false, List, [], ◌∷◌, refl, place, Empty, Logical, Value, Replacement, as_map, overridden}

abbrev by : ℕ → Value → Replacement
by a v = record { at = a; value = v }

abbrev a1 : ℕ
a1 = place 0 0

abbrev a2 : ℕ
a2 = place 1 0

abbrev c3 : ℕ
c3 = place 2 2

-- A2 is TRUE and C3 is emptied
abbrev old : List Replacement
old = by a2 (Logical true) ∷ by c3 Empty ∷ []

-- C3 is FALSE, A1 TRUE, A1 emptied
abbrev others : List Replacement
others = by c3 (Logical false) ∷ by a1 (Logical true) ∷ by a1 Empty ∷ []

-- put in, they stand in order, the later one of A1, and in the place of the old one of C3
all_of_them : overridden (as_map old) others ≡ as_map (by a1 Empty ∷ by a2 (Logical true) ∷ by c3 (Logical false) ∷ [])
all_of_them = refl
