-- Sheets worked by hand.
use Rattle.wi_sheet.proofs.Words.{◌≡◌, ℕ, true, false, [], ◌∷◌, List, refl, codes, ⊤, place, shown_text, Text, Fault, Circular, Replacement, Reference, Join, Constant, Formula, Tree, text, cell, binary, what_if, Sheet, circular, reaches, in_cone, value_within, cell_value, shown, reaching, demand_within, demand}

-- what is unfolded to compute on a sheet that is written out
unfoldable on_literals : ⊤
unfolding shown_text circular reaches value_within cell_value shown demand_within demand
on_literals = tt

abbrev a1 : ℕ
a1 = place 0 0

abbrev b1 : ℕ
b1 = place 0 1

abbrev c1 : ℕ
c1 = place 0 2

abbrev d1 : ℕ
d1 = place 0 3

abbrev a2 : ℕ
a2 = place 1 0

abbrev b2 : ℕ
b2 = place 1 1

abbrev a9 : ℕ
a9 = place 8 0

abbrev to : ℕ → Reference
to c = record { at = c; column_is_absolute = false; row_is_absolute = false }

abbrev at : ℕ → Tree
at c = cell (to c)

-- a cell's text with a mark behind it
abbrev marked : ℕ → Tree
marked c = binary Join (at c) (text (codes "!"))

-- what a formula cell is with the value of another cell in the place of an input's
abbrev given : ℕ → ℕ → ℕ → Tree
given f input by = what_if (to f) ((to input, to by) ∷ [])

abbrev by : ℕ → List ℕ → Replacement
by c s = record { at = c; value = Text s }

-- ---- A1 x, B1 =[.A1]&"!", A2 y, C1 what B1 is with A2's value in A1, D1 what C1 is with A1's value in A2

abbrev sheet : Sheet
sheet =
    (a1, Constant (Text (codes "x"))) ∷ (b1, Formula (marked a1)) ∷ (a2, Constant (Text (codes "y")))
    ∷ (c1, Formula (given b1 a1 a2)) ∷ (d1, Formula (given c1 a2 a1)) ∷ []

-- a what-if of a what-if: the inner one takes A2's value where the outer one has put A1's
nested_what_if : shown sheet [] d1 ≡ Text (codes "x!")
unfolding on_literals
nested_what_if = refl

-- D1 asks for C1 with A1's value in A2, and that for B1 with it in A1: B1 doesn't reach A2
demand_of_what_if : demand sheet (d1, []) ≡ (d1, []) ∷ (c1, by a2 (codes "x") ∷ []) ∷ (b1, by a1 (codes "x") ∷ []) ∷ []
unfolding on_literals
demand_of_what_if = refl

-- ---- A1 =[.B1], B1 =[.A1]

abbrev cycle : Sheet
cycle = (a1, Formula (at b1)) ∷ (b1, Formula (at a1)) ∷ []

-- no replacement cuts it
replaced_on_cycle : shown cycle (by b1 (codes "y") ∷ []) a1 ≡ Fault Circular
unfolding on_literals
replaced_on_cycle = refl

-- ---- A1 =[.B1], B1 what C1 is with D1's value in A9, C1 =[.A2], D1 x, A2 =[.B2], B2 =[.A2]

abbrev chain : Sheet
chain =
    (a1, Formula (at b1)) ∷ (b1, Formula (given c1 a9 d1)) ∷ (c1, Formula (at a2)) ∷ (d1, Constant (Text (codes "x")))
    ∷ (a2, Formula (at b2)) ∷ (b2, Formula (at a2)) ∷ []

-- A1 reaches the what-if's replacement cell, and what its formula cell reads, though on a cycle; its input is only named
those_that_reach : reaching chain a1 (by d1 (codes "y") ∷ by a2 (codes "y") ∷ by a9 (codes "y") ∷ []) ≡ by d1 (codes "y") ∷ by a2 (codes "y") ∷ []
unfolding on_literals
those_that_reach = refl

in_its_cone : in_cone chain (a9 ∷ d1 ∷ []) a1 ≡ true
unfolding on_literals
in_its_cone = refl

beside_its_cone : in_cone chain (a9 ∷ d1 ∷ []) c1 ≡ false
unfolding on_literals
beside_its_cone = refl
