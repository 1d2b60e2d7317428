-- References to rectangles of cells as a formula writes them (OpenFormula, "References").
use Rattle.std.specs.Prelude.{◌++◌, codes}
use Rattle.wi_lexer.specs.Cell.{WrittenCell, IsCell, cell_text}
use Rattle.wi_fraction.specs.Text.{Bytes}

-- `[.CELL:.CELL]`
abbrev pub rectangle_text : WrittenCell → WrittenCell → Bytes
rectangle_text c d = codes "[." ++ cell_text c ++ codes ":." ++ cell_text d ++ codes "]"

-- The text is a reference to a rectangle.
pub data IsRectangle : Bytes → Type 0 where
  two_cells : (c d : WrittenCell) → IsCell c → IsCell d → IsRectangle (rectangle_text c d)
