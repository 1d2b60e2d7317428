-- Which cells are on or above a cycle of references.
use Rattle.std.specs.Prelude.{ℕ, Bool, ◌&&◌, List, [], ◌∷◌, ◌++◌, map}
use Rattle.std.specs.List.{list_any, list_all}
use Rattle.wi_values.specs.Address.{is_one_of}
use Rattle.wi_parser.specs.Sheet.{Sheet, content_of, cells_with_formula}
use Rattle.wi_graph.specs.Precedents.{formula_reads}

-- some of the elements, in their order
abbrev pub sublists : List ℕ → List (List ℕ)
sublists [] = [] ∷ []
sublists (x ∷ xs) = sublists xs ++ map (λ ys. x ∷ ys) (sublists xs)

-- c is on or above a cycle: it is one of some cells with a formula each of which reads one of them
unfoldable pub circular : Sheet → ℕ → Bool
circular s c = list_any (λ cs. is_one_of cs c && list_all (λ d. list_any (formula_reads (content_of s d)) cs) cs) (sublists (cells_with_formula s))
