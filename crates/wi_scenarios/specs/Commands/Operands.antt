-- The operands of commands, whether the sheet has the cells or not.
use Rattle.std.specs.Prelude.{◌||◌, ◌==◌, ◌∷◌, if◌then◌else◌}
use Rattle.wi_scenarios.specs.Words.{ℕ, Bool, nat_le, Option, option_map, Bytes, Area, rows, columns, place, row_of, column_of, rect_of, [], byte}

-- a cell by its row and its column, counted from 0, of any size
pub record Cell : Type 0 where
  pub row : ℕ
  pub column : ℕ

-- two opposite corners of a rectangle, in any order
abbrev pub CornerCells : Type 0
CornerCells = Cell × Cell

abbrev pub is_outside : Cell → Bool
is_outside c = nat_le rows c.row || nat_le columns c.column

-- its place, where the sheet has it
abbrev pub address : Cell → ℕ
address c = place c.row c.column

abbrev pub area : CornerCells → Area
area r = rect_of (address r.0) (address r.1)

-- the operands of an address and of a rectangle of the sheet
abbrev pub cell : ℕ → Cell
cell a = record { row = row_of a; column = column_of a }

abbrev pub corners : Area → CornerCells
corners r = (cell r.first, cell r.last)

-- those of a table's second input and its row, where it has them
abbrev pub second_input : Option (ℕ × Area) → Option (Cell × CornerCells)
second_input second = option_map (λ y. (cell y.0, corners y.1)) second

pub data Operand : Type 0 where
  WORD CONTENT NAME SESSION : Bytes → Operand
  ADDR : Cell → Operand
  RECT : CornerCells → Operand
  LINES : ℕ → Operand
  -- a scenario, or `-` for the base
  SIDE : Option Bytes → Operand
  -- any word, which spells this cell, or none
  ANY : Option Cell → Operand

-- ---- what each line is held to, the data lines of an import too

abbrev pub without_lf : Bytes → Bytes
without_lf [] = []
without_lf (b ∷ bs) = if b == byte "\n" then [] else b ∷ without_lf bs

-- without its LF
abbrev pub max_line : ℕ
max_line = 65536
