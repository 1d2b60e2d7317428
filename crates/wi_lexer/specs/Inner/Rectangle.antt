-- Where a rectangle is found, as a reader goes.
use Rattle.std.specs.Prelude.{ℕ, ◌+◌, Bool, ◌&&◌, ◌==◌, nat_lt, if◌then◌else◌, List, take, drop, slice_index, Option, Some, None}
use Rattle.std.specs.Str.{byte}
use Rattle.wi_lexer.specs.Inner.Runs.{before_colon_len}
use Rattle.wi_lexer.specs.Cell.{WrittenCell}
use Rattle.wi_lexer.specs.Inner.Cell.{cell_of, cell_len, parts}
use Rattle.wi_lexer.specs.Inner.Reference.{inside, is_bracketed, first_len}
use Rattle.wi_lexer.specs.declared.cell.CellText.{CellText}

-- whether the bytes begin with `:.`
abbrev pub begins_second : List ℕ → Bool
begins_second bs = slice_index bs 0 == byte ":" && slice_index bs 1 == byte "."

-- both cells, if both are there
abbrev pub both_cells : Option WrittenCell → Option WrittenCell → Option (WrittenCell × WrittenCell)
both_cells None d = None
both_cells (Some c) None = None
both_cells (Some c) (Some d) = Some (c, d)

-- the cells on both sides of the `:.` that follows the first
abbrev pub cells_beside : List ℕ → List ℕ → Option (WrittenCell × WrittenCell)
cells_beside first rest = if begins_second rest then both_cells (cell_of first) (cell_of (drop 2 rest)) else None

-- the cells of `CELL:.CELL`
unfoldable pub corner_cells : List ℕ → Option (WrittenCell × WrittenCell)
corner_cells bs = cells_beside (take (before_colon_len bs) bs) (drop (before_colon_len bs) bs)

-- the cells of a reference `[.CELL:.CELL]`
unfoldable pub rectangle_of : List ℕ → Option (WrittenCell × WrittenCell)
rectangle_of text = if is_bracketed text then corner_cells (inside text) else None

-- the length of `:.CELL]` at the front, or 0 where it doesn't stand there
unfoldable pub second_len : List ℕ → ℕ
second_len bs = if ((begins_second bs && nat_lt 0 (cell_len (drop 2 bs))) && slice_index (drop (2 + cell_len (drop 2 bs)) bs) 0 == byte "]") then 3 + cell_len (drop 2 bs) else 0

-- the length of the reference to a rectangle at the front, or 0 where none stands there
unfoldable pub rectangle_len : List ℕ → ℕ
rectangle_len bs = if (nat_lt 0 (first_len bs) && nat_lt 0 (second_len (drop (first_len bs) bs))) then first_len bs + second_len (drop (first_len bs) bs) else 0

-- the parts that two of `CellText` lend
abbrev pub parts_of_both : CellText × CellText → WrittenCell × WrittenCell
parts_of_both p = (parts p.0, parts p.1)
