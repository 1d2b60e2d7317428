-- Which cells a formula reads, its precedents, and which it only names.
use Rattle.std.specs.Prelude.{◌==◌, ℕ, Bool, false, ◌||◌, List, [], ◌∷◌, map, Option, Some}
use Rattle.std.specs.List.{list_any, flat_map}
use Rattle.wi_values.specs.Address.{Area, rect_of, is_within}
use Rattle.wi_parser.specs.Tree.{Tree, area_of}
use Rattle.wi_parser.specs.Leaves.{Leaf, cell_leaf, rectangle_leaf, what_if_leaf, leaves}
use Rattle.wi_parser.specs.declared.content.Content.{Content}
use Rattle.wi_parser.specs.declared.content.Content.TheVariants.{Formula}

abbrev pub cell_area : ℕ → Area
cell_area a = rect_of a a

-- ---- precedents

-- A what-if has its formula cell and its replacement cells as precedents, and only names its inputs.
abbrev pub leaf_reads : Leaf → ℕ → Bool
leaf_reads (cell_leaf r) a = r.at == a
leaf_reads (rectangle_leaf c) a = is_within (area_of c) a
leaf_reads (what_if_leaf f pairs) a = f.at == a || list_any (λ p. p.1.at == a) pairs

-- whichever branch is taken
abbrev pub reads : Tree → ℕ → Bool
reads t a = list_any (λ l. leaf_reads l a) (leaves t)

abbrev pub content_reads : Option Content → ℕ → Bool
content_reads (Some (Formula t)) a = reads t a
content_reads o a = false

-- ---- precedents as rectangles

abbrev pub leaf_rectangles : Leaf → List Area
leaf_rectangles (cell_leaf r) = cell_area r.at ∷ []
leaf_rectangles (rectangle_leaf c) = area_of c ∷ []
leaf_rectangles (what_if_leaf f pairs) = cell_area f.at ∷ map (λ p. cell_area p.1.at) pairs

-- the rectangles that a tree reads, from the left; a single cell is the rectangle of that cell
abbrev pub rectangles_of : Tree → List Area
rectangles_of t = flat_map leaf_rectangles (leaves t)

-- ---- inputs

abbrev pub leaf_inputs : Leaf → List ℕ
leaf_inputs (what_if_leaf f pairs) = map (λ p. p.0.at) pairs
leaf_inputs l = []

-- the inputs of a tree's what-ifs, from the left
abbrev pub inputs_of : Tree → List ℕ
inputs_of t = flat_map leaf_inputs (leaves t)
