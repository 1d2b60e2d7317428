-- A cell's value where no formula gives it.
use Rattle.std.specs.Prelude.{◌≡◌, ℕ, false, Some}
use Rattle.wi_parser.specs.declared.content.Content as content
use Rattle.wi_parser.specs.Sheet.{Sheet, content_of, has_formula}
use Rattle.wi_sheet.specs.CellValue.{cell_value}
use Rattle.wi_propagate.specs.declared.standing.Standing as standing

-- the value of a cell without a formula, or the cell's formula
abbrev pub IsStandingOf : Sheet → ℕ → standing.Standing → Type 0
IsStandingOf s a (standing.TheVariants.Value v) = (v ≡ cell_value s a) × (has_formula (content_of s a) ≡ false)
IsStandingOf s a (standing.TheVariants.Formula f) = content_of s a ≡ Some (content.TheVariants.Formula f.now)
