-- For which causes a command is refused, and which of them is answered.
use Rattle.std.specs.Prelude.{◌≡◌, ◌≢◌, ◌*◌, ◌<◌, ◌≤◌, ◌⊎◌, ◌||◌, ◌&&◌, ◌==◌, ◌∷◌}
use Rattle.wi_scenarios.specs.Words.{ℕ, Bool, false, not, IsTrue, List, [], length, Option, Some, None, codes, Any, Contains, list_any, IsUtf8, Bytes, size_of, cells_of, IsImported, HasSymbols, IsTooLong, IsInside, first_stale, chain, has_scenario, is_full, has_session, max_sessions, State, max_area, current_session}
use Rattle.wi_parser.specs.declared.fault.ParseFault.TheVariants as parse
use Rattle.wi_parser.specs.Nesting.{is_too_deep}
use Rattle.wi_parser.specs.Spelling.{IsSpelling}
use Rattle.wi_parser.specs.Symbol.{bad_token}
use Rattle.wi_parser.specs.Tree.{Tree}
use Rattle.wi_scenarios.specs.Commands.Operands.{Cell, CornerCells, is_outside, address, area, Operand, ADDR, RECT, NAME, SIDE, ANY, max_line, without_lf}
use Rattle.wi_scenarios.specs.Commands.Command.{Command, Set, Clear, Fill, Csv, Scenario, Drop, Base, As, Table, Unknown, Unreadable, form}
use Rattle.wi_scenarios.specs.Commands.Edits.{is_forced, named, fields, copy_in, Put, Puts, sheet_with}

pub data Cause : Type 0 where
  BadLine BadCommand CutShort Outside TooLarge NoScenario InUse TooMany BadField TooLong OutOfSheet NumberRange TooDeep Syntax
      LeavesSheet Stale Loop Full EditLimit : Cause

-- The causes in their order, each with its code. The first that holds is answered.
abbrev pub order : List (Cause × Bytes)
order =
    (BadLine, codes "03") ∷ (BadCommand, codes "02") ∷ (CutShort, codes "13") ∷ (Outside, codes "04") ∷ (TooLarge, codes "15")
    ∷ (NoScenario, codes "10") ∷ (InUse, codes "12") ∷ (TooMany, codes "11") ∷ (BadField, codes "14") ∷ (TooLong, codes "08")
    ∷ (OutOfSheet, codes "04") ∷ (NumberRange, codes "07") ∷ (TooDeep, codes "06") ∷ (Syntax, codes "05")
    ∷ (LeavesSheet, codes "16") ∷ (Stale, codes "18") ∷ (Loop, codes "19") ∷ (Full, codes "09") ∷ (EditLimit, codes "17") ∷ []

-- ---- what an operand asks for

abbrev pub lies_outside : Operand → Bool
lies_outside (ADDR c) = is_outside c
lies_outside (ANY (Some c)) = is_outside c
lies_outside (RECT r) = is_outside r.0 || is_outside r.1
lies_outside o = false

-- the cells of an area, or the entries of a table of two
abbrev pub cells_asked : List Operand → ℕ
cells_asked [] = 1
cells_asked (RECT r ∷ os) = size_of (area r) * cells_asked os
cells_asked (o ∷ os) = cells_asked os

-- within the sheet, but not one column, or not one row, as `part` says
abbrev pub is_bent : (Cell → ℕ) → CornerCells → Bool
is_bent part r = not (lies_outside (RECT r)) && not (part r.0 == part r.1)

-- ---- the causes, in the state s

module _ (s : State) where
  abbrev pub is_missing : Operand → Bool
  is_missing (NAME name) = not (has_scenario s.scenarios name)
  is_missing (SIDE (Some name)) = not (has_scenario s.scenarios name)
  is_missing o = false

  abbrev pub stale_cell : Command → Option ℕ
  stale_cell c = first_stale s.log s.current (current_session s).seen (named c)

  -- The cause holds for the command by the first line that fits; none holds where no line does.
  abbrev pub Holds : Cause → Command → Type 0
  -- A line or a data line is too long, or a line isn't UTF-8.
  Holds BadLine Unreadable = Unit {0}
  Holds BadLine (Csv force at n lines) = Any (λ line. max_line < length (without_lf line)) lines
  -- Unknown command, wrong number of words, wrong shape; XCOLUMN or YROW not one column or one row.
  Holds BadCommand Unknown = Unit {0}
  Holds BadCommand (Set force at []) = Unit {0}
  Holds BadCommand (Csv force None n lines) = Unit {0}
  Holds BadCommand (Table f r xs None) = IsTrue (is_bent (λ c. c.column) xs)
  Holds BadCommand (Table f r xs (Some y)) = IsTrue (is_bent (λ c. c.column) xs || is_bent (λ c. c.row) y.1)
  -- The input ends before the last data line.
  Holds CutShort (Csv force at n lines) = length lines < n
  -- An operand lies outside the sheet.
  Holds Outside c = IsTrue (list_any lies_outside (form c))
  -- The area is too large; `clear` takes one of any size.
  Holds TooLarge (Clear force rect) = ⊥
  Holds TooLarge c = max_area < cells_asked (form c)
  -- There is no such scenario; one that gets a replacement is made.
  Holds NoScenario (Scenario name at (b ∷ bs)) = ⊥
  Holds NoScenario c = IsTrue (list_any is_missing (form c))
  -- A session uses the scenario, or another is based on it.
  Holds InUse (Drop name) = Any (λ x. x.scenario ≡ Some name) s.sessions ⊎ Any (λ x. x.base ≡ Some name) s.scenarios
  -- Too many scenarios, replacements or sessions.
  Holds TooMany (Scenario name at (b ∷ bs)) = IsTrue (is_full s.scenarios name (address at))
  Holds TooMany (As name) = (has_session s.sessions name ≡ false) × (max_sessions ≤ length s.sessions)
  -- A field isn't UTF-8.
  Holds BadField (Csv force (Some at) n lines) = Any (λ f. IsUtf8 f.bytes → ⊥) (fields at lines)
  -- A text or formula is too long.
  Holds TooLong (Set force at text) = IsTooLong text
  Holds TooLong (Scenario name at (b ∷ bs)) = IsImported (b ∷ bs) None
  Holds TooLong (Csv force (Some at) n lines) = Any (λ f. IsImported f.bytes None) (fields at lines)
  -- A formula's address, or a field of an import, lies outside the sheet.
  Holds OutOfSheet (Set force at text) = HasSymbols text (λ ts. Contains ts (bad_token parse.OutOfSheet))
  Holds OutOfSheet (Csv force (Some at) n lines) = Any (λ f. IsInside f → ⊥) (fields at lines)
  -- A formula's number doesn't fit; its nesting; its syntax.
  Holds NumberRange (Set force at text) = HasSymbols text (λ ts. Contains ts (bad_token parse.NumberRange))
  Holds TooDeep (Set force at text) = HasSymbols text (λ ts. IsTrue (is_too_deep ts))
  Holds Syntax (Set force at text) = HasSymbols text (λ ts. (t : Tree) → IsSpelling t ts → ⊥)
  -- A filled formula's reference would leave the sheet.
  Holds LeavesSheet (Fill force from rect) = Any (λ to. copy_in s (address from) to ≡ None) (cells_of (area rect))
  -- The edit names a stale cell, and isn't forced.
  Holds Stale c = (is_forced c ≡ false) × (stale_cell c ≢ None)
  -- OTHER is NAME, or is based on it at any remove.
  Holds Loop (Base name (Some other)) = Any (λ x. x.name ≡ name) (chain s.scenarios (Some other))
  -- The sheet would have too many occupied cells.
  Holds Full c = (puts : List Put) × Puts s c puts × (s.stored.limits.cells < length (sheet_with s puts))
  -- There were as many edits as there may be.
  Holds EditLimit c = (puts : List Put) × Puts s c puts × (s.stored.limits.edits ≤ s.stored.edits)
  Holds cause c = ⊥

  abbrev pub IsFirst : Command → List (Cause × Bytes) → Cause × Bytes → Type 0
  IsFirst c [] y = ⊥
  IsFirst c (x ∷ xs) y = (Holds x.0 c × (y ≡ x)) ⊎ ((Holds x.0 c → ⊥) × IsFirst c xs y)
