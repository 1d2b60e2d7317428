-- The commands of the script, and how each is written.
use Rattle.std.specs.Prelude.{◌∷◌}
use Rattle.wi_scenarios.specs.Words.{ℕ, Bool, true, false, List, [], Option, Some, None, codes, Bytes}
use Rattle.wi_scenarios.specs.Commands.Operands.{Cell, CornerCells, Operand, WORD, ADDR, RECT, NAME, SESSION, SIDE, ANY, LINES, CONTENT}

-- What a line asks for, whatever its operands are worth. `Csv` has the number of data lines asked for and those that
-- came.
pub data Command : Type 0 where
  Set : Bool → Cell → Bytes → Command
  Clear : Bool → CornerCells → Command
  Fill : Bool → Cell → CornerCells → Command
  Csv : Bool → Option Cell → ℕ → List Bytes → Command
  Scenario : Bytes → Cell → Bytes → Command
  Drop As : Bytes → Command
  Base : Bytes → Option Bytes → Command
  Use : Option Bytes → Command
  Show Export : CornerCells → Command
  Compare : Option Bytes → Option Bytes → CornerCells → Command
  Table : Cell → Cell → CornerCells → Option (Cell × CornerCells) → Command
  Formula : Cell → Command
  -- `changes`; a line that spells no command; and one that can't be read
  Changes Unknown Unreadable : Command

abbrev pub may_force : Bool → List Operand → List Operand
may_force true os = WORD (codes "force") ∷ os
may_force false os = os

abbrev pub form : Command → List Operand
form (Set force at text) = may_force force (WORD (codes "set") ∷ ADDR at ∷ CONTENT text ∷ [])
form (Clear force rect) = may_force force (WORD (codes "clear") ∷ RECT rect ∷ [])
form (Fill force at rect) = may_force force (WORD (codes "fill") ∷ ADDR at ∷ RECT rect ∷ [])
form (Csv force at n lines) = may_force force (WORD (codes "csv") ∷ ANY at ∷ LINES n ∷ [])
form (Scenario name at text) = WORD (codes "scenario") ∷ NAME name ∷ ADDR at ∷ CONTENT text ∷ []
form (Drop name) = WORD (codes "drop") ∷ NAME name ∷ []
form (Base name None) = WORD (codes "base") ∷ NAME name ∷ []
form (Base name (Some other)) = WORD (codes "base") ∷ NAME name ∷ NAME other ∷ []
form (Use None) = WORD (codes "use") ∷ []
form (Use (Some name)) = WORD (codes "use") ∷ NAME name ∷ []
form (As name) = WORD (codes "as") ∷ SESSION name ∷ []
form (Show rect) = WORD (codes "show") ∷ RECT rect ∷ []
form (Export rect) = WORD (codes "export") ∷ RECT rect ∷ []
form Changes = WORD (codes "changes") ∷ []
form (Compare s t rect) = WORD (codes "compare") ∷ SIDE s ∷ SIDE t ∷ RECT rect ∷ []
form (Table f r xs None) = WORD (codes "table") ∷ ADDR f ∷ ADDR r ∷ RECT xs ∷ []
form (Table f r xs (Some y)) = WORD (codes "table") ∷ ADDR f ∷ ADDR r ∷ RECT xs ∷ ADDR y.0 ∷ RECT y.1 ∷ []
form (Formula at) = WORD (codes "formula") ∷ ADDR at ∷ []
form c = []

-- the data lines that came with it
abbrev pub data_of : Command → List Bytes
data_of (Csv force at n lines) = lines
data_of c = []
