-- References as a formula writes them (OpenFormula, "References").
use Rattle.std.specs.Prelude.{◌++◌, codes}
use Rattle.wi_lexer.specs.Cell.{WrittenCell, IsCell, cell_text}
use Rattle.wi_fraction.specs.Text.{Bytes}

-- `[.CELL]`
abbrev pub reference_text : WrittenCell → Bytes
reference_text c = codes "[." ++ cell_text c ++ codes "]"

-- The text is a reference.
pub data IsReference : Bytes → Type 0 where
  one_cell : (c : WrittenCell) → IsCell c → IsReference (reference_text c)
