-- Parts of the values of cells, and of what an entry of a data table asks for, by names of their own.
use Rattle.std.specs.Prelude.{ℕ, Bool, ◌||◌, List, map}
use Rattle.std.specs.List.{list_any}
use Rattle.wi_values.specs.declared.value.Value.{Value}
use Rattle.wi_values.specs.declared.replacement.Replacement.{Replacement}
use Rattle.wi_parser.specs.Sheet.{Sheet}
use Rattle.wi_parser.specs.Tree.{Tree}
use Rattle.wi_functions.specs.Meaning.{meaning, zero_for_empty}
use Rattle.wi_graph.specs.Circular.{circular}
use Rattle.wi_sheet.specs.CellValue.{what_if_in}

-- each input with the value of its replacement cell
abbrev pub replacements : (ℕ → Value) → List (ℕ × ℕ) → List Replacement
replacements cells pairs = map (λ p. record { at = p.0; value = cells p.1 }) pairs

-- the formula cell of an entry or one of its replacement cells is circular
abbrev pub asks_circular : Sheet → ℕ → List (ℕ × ℕ) → Bool
asks_circular s f pairs = circular s f || list_any (λ x. circular s x.1) pairs

-- a formula's value, where `value` gives that of each cell of a sheet
abbrev pub formula_in : (Sheet → ℕ → Value) → Sheet → Tree → Value
formula_in value s t = zero_for_empty (meaning t (value s) (what_if_in value s))
