-- Laws about what cells show, as statements.
use Rattle.std.specs.Prelude.{◌≡◌, ℕ, ◌≤◌, true, false, List, length, Some}
use Rattle.wi_values.specs.declared.replacement.Replacement.{Replacement}
use Rattle.wi_parser.specs.Tree.{Tree}
use Rattle.wi_parser.specs.declared.content.Content.TheVariants.{Formula}
use Rattle.wi_parser.specs.Sheet.{Sheet, content_of, put_all, cells_with_formula}
use Rattle.wi_parser.specs.Reads.{content_reads}
use Rattle.wi_graph.specs.Circular.{circular}
use Rattle.wi_sheet.specs.CellValue.{value_within, cell_value, formula_value}

-- every bound from the number of formulas on gives a cell its value
abbrev pub BoundIsNeverFelt : Type 0
BoundIsNeverFelt = (s : Sheet) (c k : ℕ) → length (cells_with_formula s) ≤ k → value_within k s c ≡ cell_value s c

-- a cell with a formula that is not circular in the sheet has, under replacements, its formula's value there
abbrev pub ValueByStep : Type 0
ValueByStep = (s : Sheet) (p : List Replacement) (c : ℕ) (t : Tree) → circular s c ≡ false → content_of (put_all s p) c ≡ Some (Formula t) →
    cell_value (put_all s p) c ≡ formula_value (put_all s p) t

-- a cell that is not circular reads none that is
abbrev pub CircularIsAbove : Type 0
CircularIsAbove = (s : Sheet) (c d : ℕ) → content_reads (content_of s c) d ≡ true → circular s d ≡ true → circular s c ≡ true

-- a cell that reads no circular cell is not circular
abbrev pub CircularReadsCircular : Type 0
CircularReadsCircular = (s : Sheet) (c : ℕ) → ((d : ℕ) → content_reads (content_of s c) d ≡ true → circular s d ≡ false) → circular s c ≡ false

-- no replacement makes a cell circular
abbrev pub PutsMakeNoCycle : Type 0
PutsMakeNoCycle = (s : Sheet) (p : List Replacement) (c : ℕ) → circular (put_all s p) c ≡ true → circular s c ≡ true
