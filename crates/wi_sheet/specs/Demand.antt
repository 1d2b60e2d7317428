-- What the value of one cell demands.
use Rattle.std.specs.Prelude.{◌==◌, ℕ, zero, suc, ◌+◌, Bool, ◌&&◌, if◌then◌else◌, List, [], ◌∷◌, ◌++◌, map, filter, length, Option, Some, None}
use Rattle.std.specs.List.{list_any, flat_map}
use Rattle.wi_values.specs.declared.replacement.Replacement.{Replacement}
use Rattle.wi_values.specs.Replacements.{as_map, as_replacements, overridden, same_replacements}
use Rattle.wi_parser.specs.Tree.{Tree}
use Rattle.wi_parser.specs.Leaves.{Leaf, what_if_leaf, leaves}
use Rattle.wi_parser.specs.declared.content.Content.{Content}
use Rattle.wi_parser.specs.declared.content.Content.TheVariants.{Constant, Formula}
use Rattle.wi_parser.specs.Sheet.{Sheet, content_of, put_all, cells_with_formula}
use Rattle.wi_parser.specs.Reads.{leaf_reads}
use Rattle.wi_arguments.specs.Assignment.{addresses}
use Rattle.wi_graph.specs.Circular.{circular}
use Rattle.wi_graph.specs.Reach.{reaches}
use Rattle.wi_sheet.specs.CellValue.{cell_value}
use Rattle.wi_sheet.specs.Inner.Asked.{replacements}

-- a cell and the replacements under which it is valued
abbrev pub Case : Type 0
Case = ℕ × List Replacement

-- the replacements of cells that c reaches
abbrev pub reaching : Sheet → ℕ → List Replacement → List Replacement
reaching s c w = filter (λ r. reaches s c r.at) w

-- a cell with the replacements of cells that it reaches
abbrev pub case_of : Sheet → List Replacement → ℕ → Case
case_of s w c = (c, reaching s c w)

abbrev pub same_case : Case → Case → Bool
same_case k j = k.0 == j.0 && same_replacements k.1 j.1

-- replacements with those of a what-if put in: each input has the value that its replacement cell has under the outer
-- ones
abbrev pub with_what_if : Sheet → List Replacement → List (ℕ × ℕ) → List Replacement
with_what_if s w pairs = as_replacements (overridden (as_map w) (replacements (cell_value (put_all s w)) pairs))

-- the case of a what-if's formula cell, with the what-if's replacements put in
abbrev pub what_if_case : Sheet → List Replacement → ℕ × List (ℕ × ℕ) → Case
what_if_case s w x = case_of s (with_what_if s w x.1) x.0

abbrev pub leaf_what_ifs : Leaf → List (ℕ × List (ℕ × ℕ))
leaf_what_ifs (what_if_leaf f pairs) = (f.at, map addresses pairs) ∷ []
leaf_what_ifs l = []

-- the what-ifs in a tree, from the left: the formula cell, and each input with its replacement cell
abbrev pub what_ifs_of : Tree → List (ℕ × List (ℕ × ℕ))
what_ifs_of t = flat_map leaf_what_ifs (leaves t)

-- A leaf reads this cell as the sheet stands: it reads it in another place than as the formula cell of a what-if.
abbrev pub leaf_reads_here : Leaf → ℕ → Bool
leaf_reads_here (what_if_leaf f pairs) a = list_any (λ p. p.1.at == a) pairs
leaf_reads_here l a = leaf_reads l a

-- a leaf of the tree reads this cell as the sheet stands
abbrev pub reads_here : Tree → ℕ → Bool
reads_here t a = list_any (λ l. leaf_reads_here l a) (leaves t)

-- what f gives of a formula's tree, and x where no formula stands
abbrev pub of_formula : {A : Type 0} → Option Content → A → (Tree → A) → A
of_formula None x f = x
of_formula (Some (Constant v)) x f = x
of_formula (Some (Formula t)) x f = f t

-- the cells with a formula that a tree reads as the sheet stands
abbrev pub formulas_read_here : Sheet → Tree → List ℕ
formulas_read_here s t = filter (reads_here t) (cells_with_formula s)

-- the cases on which a tree's value under replacements rests
abbrev pub precedent_cases : Sheet → List Replacement → Tree → List Case
precedent_cases s w t = map (case_of s w) (formulas_read_here s t) ++ map (what_if_case s w) (what_ifs_of t)

-- The cases that a case demands, by at most n formulas one below the other: itself, and what those demand on which its
-- formula's value rests. One that is circular in the sheet, or has no formula under its replacements, demands nothing.
unfoldable pub demand_within : ℕ → Sheet → Case → List Case
demand_within zero s k = []
demand_within (suc n) s k = if circular s k.0 then [] else
    of_formula (content_of (put_all s k.1) k.0) [] (λ t. k ∷ flat_map (demand_within n s) (precedent_cases s k.1 t))

-- the cases that a case demands: as many formulas as the sheet has can stand one below the other
unfoldable pub demand : Sheet → Case → List Case
demand s k = demand_within (length (cells_with_formula s)) s k

-- how many values a case's formula may ask for: of cells with a formula, and of what-ifs
abbrev pub wants : Sheet → Case → ℕ
wants s k = of_formula (content_of (put_all s k.1) k.0) 0 (λ t. length (formulas_read_here s t) + length (what_ifs_of t))

-- each case once
abbrev pub different : List Case → List Case
different [] = []
different (k ∷ ks) = if list_any (same_case k) ks then different ks else k ∷ different ks

-- the different cases that a cell's value under replacements demands
abbrev pub demanded : Sheet → List Replacement → ℕ → List Case
demanded s w c = different (demand s (case_of s w c))
