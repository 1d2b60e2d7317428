-- What looking at cells may cost: the cases that the calculator is asked for, each of which may be evaluated once.
use Rattle.std.specs.Prelude.{ℕ, ◌+◌, ◌≤◌, List, [], ◌∷◌, ◌++◌, length, sum_by, Option, Some, None}
use Rattle.std.specs.List.{flat_map}
use Rattle.wi_values.specs.Address.{Area, cells_of}
use Rattle.wi_values.specs.declared.replacement.Replacement.{Replacement}
use Rattle.wi_parser.specs.Sheet.{Sheet}
use Rattle.wi_sheet.specs.Demand.{Case, demanded, wants}
use Rattle.wi_sheet.specs.TableEntry.{entry_demanded}

-- From one pair of counts to a later one, of evaluations and of those begun again: no more than one evaluation for each
-- case, and no more begun again than their formulas ask for values.
pub record Costs (s : Sheet) (cases : List Case) (old new : ℕ × ℕ) : Type 0 where
  pub evaluations : new.0 ≤ old.0 + length cases
  pub restarts : new.1 ≤ old.1 + sum_by (wants s) cases

-- the values of some cells
abbrev pub cells_cases : Sheet → List Replacement → List ℕ → List Case
cells_cases s put cells = flat_map (demanded s put) cells

-- `show` and `export`: those of a rectangle
abbrev pub rows_cases : Sheet → List Replacement → Area → List Case
rows_cases s put area = cells_cases s put (cells_of area)

-- `compare`: of each cell both values
abbrev pub both_cases : Sheet → List Replacement → List Replacement → ℕ → List Case
both_cases s p q c = demanded s p c ++ demanded s q c

abbrev pub comparison_cases : Sheet → List Replacement → List Replacement → Area → List Case
comparison_cases s p q area = flat_map (both_cases s p q) (cells_of area)

-- `table`: the values of the row, then for each X of the column its value and the entries beside it
module _ (s : Sheet) (put : List Replacement) where
  abbrev pub entries_cases : ℕ → ℕ → Option (ℕ × Area) → ℕ → List Case
  entries_cases f r None x = entry_demanded s put f ((r, x) ∷ [])
  entries_cases f r (Some second) x = flat_map (λ y. entry_demanded s put f ((r, x) ∷ (second.0, y) ∷ [])) (cells_of second.1)

  abbrev pub head_cases : Option (ℕ × Area) → List Case
  head_cases None = []
  head_cases (Some second) = rows_cases s put second.1

  abbrev pub beside_cases : ℕ → ℕ → Option (ℕ × Area) → ℕ → List Case
  beside_cases f r second x = demanded s put x ++ entries_cases f r second x

  abbrev pub table_cases : ℕ → ℕ → Area → Option (ℕ × Area) → List Case
  table_cases f r xs second = head_cases second ++ flat_map (beside_cases f r second) (cells_of xs)
