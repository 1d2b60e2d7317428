-- As what words and lines are read: cells and rectangles of any size, and commands.
use Rattle.std.specs.Prelude.{◌++◌, ◌-◌, ◌<◌, ◌∷◌, ◌≡◌}
use Rattle.wi_cli.specs.Words.{Bool, Cell, Command, CornerCells, List, Some, [], false, filter, filter_map, length, read_address, read_rect, true, Bytes}
use Rattle.wi_cli.specs.Inner.Operands.{spelled_cell, spelled_rect, read_any, read_any_area}
use Rattle.wi_cli.specs.Inner.Script.{Block, asked, blocks, is_complete, block_command}
use Rattle.wi_cli.specs.Spelled.{IsAddr, IsRect}

-- a word spells the cell, or the rectangle, that it was read as, and no other
pub record SameAddr (word : Bytes) : Type 0 where
  pub spelled : (c : Cell) → IsAddr word c → spelled_cell word ≡ Some c
  pub spells : (c : Cell) → spelled_cell word ≡ Some c → IsAddr word c
  pub read : read_address word ≡ read_any (spelled_cell word)

pub record SameRect (word : Bytes) : Type 0 where
  pub spelled : (r : CornerCells) → IsRect word r → spelled_rect word ≡ Some r
  pub spells : (r : CornerCells) → spelled_rect word ≡ Some r → IsRect word r
  pub read : read_rect word ≡ read_any_area (spelled_rect word)

-- ---- lines

abbrev pub line_block : Bytes → List Bytes → Block
line_block line taken = record { line = line; data_lines = taken; missing = asked line - length taken }

-- the rules by which `AreCommands` takes data lines, for the blocks of lines
pub data Splits : List Bytes → List Block → Type 0 where
  none : Splits [] []
  a_line : (line : Bytes) (taken lines : List Bytes) (bs : List Block) → asked line ≡ length taken → Splits lines bs → Splits (line ∷ taken ++ lines) (line_block line taken ∷ bs)
  cut_short : (line : Bytes) (taken : List Bytes) → length taken < asked line → Splits (line ∷ taken) (line_block line taken ∷ [])

-- of these blocks all count where the script has ended, else those of which no data line is missing
abbrev pub blocks_that_count : Bool → List Block → List Block
blocks_that_count true bs = bs
blocks_that_count false bs = filter is_complete bs

-- the commands that lines are read as
abbrev pub commands_of : Bool → List Bytes → List Command
commands_of ended lines = filter_map block_command (blocks_that_count ended (blocks lines))
