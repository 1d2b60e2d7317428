-- What a workbook is seen as, and which cells may be pending for its sessions: those that may differ from what they
-- were shown; and the cases for which a command asks the calculator.
use Rattle.std.specs.Prelude.{◌≡◌, ◌≢◌, ◌<◌, ◌⊎◌, ◌++◌, ◌∷◌, ◌-◌}
use Rattle.wi_scenarios.specs.Words.{ℕ, Bool, true, List, [], filter, map, length, All, slice_index_or, keys_of, Area, is_one_of, is_within, replaced, Sheet, fields_at, sheet_size, State, session_at, replacements_for, Option, Case, effective, cells_cases, rows_cases, comparison_cases, table_cases, current_replacements}
use Rattle.wi_import.specs.Inner.Reading.{field_cell}
use Rattle.wi_sessions.specs.Roster.{SameCells}

-- The state, the pending cells of each session in the order of making, and the counts that the calculator tells.
pub record Book : Type 0 where
  pub state : State
  pub pending : List (List ℕ)
  pub evaluated : ℕ
  pub restarted : ℕ

-- the cells that are pending for the i-th session
abbrev pub pending_for : List (List ℕ) → ℕ → List ℕ
pending_for pending i = slice_index_or pending i []

-- a cell is pending for the i-th session
abbrev pub is_pending : List (List ℕ) → ℕ → ℕ → Bool
is_pending pending i a = is_one_of (pending_for pending i) a

-- a cell that the command edits, or whose replacement for the i-th session it sets, removes or switches
abbrev pub IsTouched : List ℕ → State → State → ℕ → ℕ → Type 0
IsTouched edited old new i a =
    (is_one_of edited a ≡ true)
    ⊎ (replaced (replacements_for old (session_at old i)) a ≢ replaced (replacements_for new (session_at new i)) a)

-- a cell that is marked for some cells that were touched, one at least: a calculator may mark cells for none
pub record IsMarked (marked : Sheet → List ℕ → ℕ → Bool) (sheet : Sheet) (Touched : ℕ → Type 0) (a : ℕ) : Type 0 where
  pub cells : List ℕ
  pub some : 0 < length cells
  pub touched : All Touched cells
  pub has : marked sheet cells a ≡ true

-- what a command adds to the pending cells of the sessions that were there: cells that are marked for touched ones
abbrev pub AddsOnly : (Sheet → List ℕ → ℕ → Bool) → List ℕ → State → State → List (List ℕ) → List (List ℕ) → Type 0
AddsOnly marked edited old new before after =
    (i a : ℕ) → i < length old.sessions → is_pending after i a ≡ true →
    (is_pending before i a ≡ true) ⊎ IsMarked marked old.stored.sheet (IsTouched edited old new i) a

-- how many evaluations there were, and how many were begun again
abbrev pub counts : Book → ℕ × ℕ
counts b = (b.evaluated, b.restarted)

-- neither count was raised
abbrev pub SameCounts : Book → Book → Type 0
SameCounts old new = (new.evaluated ≡ old.evaluated) × (new.restarted ≡ old.restarted)

-- each session but the i-th has the pending cells that it had
abbrev pub SameForOthers : ℕ → List (List ℕ) → List (List ℕ) → Type 0
SameForOthers i before after = (j a : ℕ) → j ≢ i → is_pending after j a ≡ is_pending before j a

-- the occupied cells of a rectangle, which `clear` edits, and those of a sheet
abbrev pub occupied_in : Sheet → Area → List ℕ
occupied_in sheet area = filter (is_within area) (keys_of sheet)

abbrev pub occupied_cells : Sheet → List ℕ
occupied_cells sheet = occupied_in sheet (record { first = 0; last = sheet_size - 1 })

-- the cells of a text's fields, the first for the cell `at`, which `csv` edits
abbrev pub imported_cells : ℕ → List ℕ → List ℕ
imported_cells at text = map field_cell (fields_at at text)

-- the pending cells are as they were, and those of a new session are the occupied cells
abbrev pub HasNewSession : Sheet → List (List ℕ) → List (List ℕ) → Type 0
HasNewSession sheet before after =
    (cells : List ℕ) × (after ≡ before ++ cells ∷ []) × SameCells cells (occupied_cells sheet)

-- ---- the cases that are asked for

-- `show` and `export`
abbrev pub asked_by_show : State → Area → List Case
asked_by_show s area = rows_cases s.stored.sheet (current_replacements s) area

-- `changes`: the cells that are pending for the current session
abbrev pub asked_by_changes : State → List (List ℕ) → List Case
asked_by_changes s pending = cells_cases s.stored.sheet (current_replacements s) (pending_for pending s.current)

abbrev pub asked_by_compare : State → Option (List ℕ) → Option (List ℕ) → Area → List Case
asked_by_compare s first second area = comparison_cases s.stored.sheet (effective s.scenarios first) (effective s.scenarios second) area

abbrev pub asked_by_table : State → ℕ → ℕ → Area → Option (ℕ × Area) → List Case
asked_by_table s f r xs second = table_cases s.stored.sheet (current_replacements s) f r xs second
