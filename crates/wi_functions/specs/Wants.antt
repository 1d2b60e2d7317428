-- What an evaluation may ask for.
use Rattle.std.specs.Prelude.{◌≡◌, ℕ, true, List, map, Any, Option, None}
use Rattle.wi_values.specs.declared.value.Value.{Value}
use Rattle.wi_values.specs.Address.{Area, is_within}
use Rattle.wi_parser.specs.declared.expr.Reference.{Reference}
use Rattle.wi_parser.specs.Tree.{Tree, Trees, area_of}
use Rattle.wi_parser.specs.Leaves.{Leaf, cell_leaf, rectangle_leaf, what_if_leaf, leaves, all_leaves}
use Rattle.wi_parser.specs.View.{pair_of}
use Rattle.wi_arguments.specs.Assignment.{addresses}
use Rattle.wi_functions.specs.declared.evaluation.Want.{Want}
use Rattle.wi_functions.specs.declared.evaluation.Want.TheVariants.{Cell, WhatIf}

-- this cell is wanted
abbrev pub WantsCell : Want → ℕ → Type 0
WantsCell (Cell a) c = a ≡ c
WantsCell (WhatIf f pairs) c = ⊥

-- this what-if is wanted
abbrev pub WantsWhatIf : Want → ℕ → List (Reference × Reference) → Type 0
WantsWhatIf (Cell a) g qs = ⊥
WantsWhatIf (WhatIf f pairs) g qs = (f ≡ g) × (map pair_of pairs.items ≡ qs)

-- a cell of this rectangle is wanted
abbrev pub WantsWithin : Want → Area → Type 0
WantsWithin (Cell a) r = is_within r a ≡ true
WantsWithin (WhatIf f pairs) r = ⊥

-- the leaf asks for this: for its cell, for one of the cells of its rectangle, or for its what-if
abbrev pub LeafAsks : Leaf → Want → Type 0
LeafAsks (cell_leaf r) w = WantsCell w r.at
LeafAsks (rectangle_leaf c) w = WantsWithin w (area_of c)
LeafAsks (what_if_leaf f pairs) w = WantsWhatIf w f.at pairs

-- one of these leaves asks for this
abbrev pub AnyLeafAsks : List Leaf → Want → Type 0
AnyLeafAsks ls w = Any (λ l. LeafAsks l w) ls

-- a leaf of the tree asks for this
abbrev pub TreeAsks : Tree → Want → Type 0
TreeAsks t w = AnyLeafAsks (leaves t) w

-- a leaf of one of the trees asks for this
abbrev pub AnyTreeAsks : Trees → Want → Type 0
AnyTreeAsks ts w = AnyLeafAsks (all_leaves ts) w

-- what is wanted isn't known
abbrev pub IsUnknown : (ℕ → Option Value) → (ℕ → List (ℕ × ℕ) → Option Value) → Want → Type 0
IsUnknown known_cell known_what_if (Cell a) = known_cell a ≡ None
IsUnknown known_cell known_what_if (WhatIf f pairs) = known_what_if f (map addresses (map pair_of pairs.items)) ≡ None
