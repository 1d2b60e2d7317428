-- What a call of a workbook leaves, from one book to the next: of each command what its method and its code promise.
use Rattle.std.specs.Prelude.{◌≡◌, ◌≢◌, ◌++◌, ◌||◌}
use Rattle.wi_scenarios.specs.Words.{ℕ, Bool, true, false, List, [], Result, Err, OnOk, OnErr, is_ok, keys_of, Sheet, Case, has_session, Costs, Refusal, State, slice_set, Option, IfSome, Area}
use Rattle.wi_scenarios.specs.declared.refusal.Refusal.TheVariants.{Memory}
use Rattle.wi_scenarios.specs.Answer.{Answer, Serves, ServesData}
use Rattle.wi_scenarios.specs.Commands.Operands.{is_outside, address, area, cell, corners}
use Rattle.wi_scenarios.specs.Commands.Command.{Command, Drop, As, Changes}
use Rattle.wi_scenarios.specs.Commands.Step.{IsStep, IsImportStep}
use Rattle.wi_scenarios.specs.Pending.{Book, asked_by_changes, AddsOnly, SameCounts, counts, HasNewSession, pending_for, imported_cells}
use Rattle.wi_scenarios.specs.Inner.Editing.{Edit, edit_answer}

-- An edit of these cells. A command about scenarios edits none. What becomes pending is marked for cells that it
-- touches; where it is refused, what is pending is as it was. It counts nothing.
pub record Edits (marked : Sheet → List ℕ → ℕ → Bool) (cells : List ℕ) (Step : Type 0) (result : Result (Unit {0}) Refusal) (old new : Book) : Type 0 where
  pub step : Step
  pub adds : AddsOnly marked cells old.state new.state old.pending new.pending
  pub refused : OnErr result (new.pending ≡ old.pending)
  pub counts : SameCounts old new

abbrev pub IsEditBy : (Sheet → List ℕ → ℕ → Bool) → List ℕ → Command → Result (Unit {0}) Refusal → Book → Book → Type 0
IsEditBy marked cells c result old new = Edits marked cells (Serves (IsStep old.state c) result old.state new.state []) result old new

abbrev pub IsImport : (Sheet → List ℕ → ℕ → Bool) → Bool → ℕ → List ℕ → Result (Unit {0}) Refusal → Book → Book → Type 0
IsImport marked force at text result old new =
    Edits marked (imported_cells at text) (ServesData (IsImportStep old.state force at text) result old.state new.state) result old new

-- an edit, by whichever command
abbrev pub IsMade : (Sheet → List ℕ → ℕ → Bool) → Bool → Edit → Result (Unit {0}) Refusal → Book → Book → Type 0
IsMade marked force e result old new =
    Edits marked (keys_of e.contents) (Serves (λ a. edit_answer old.state force e ≡ a) result old.state new.state []) result old new

-- `drop`: takes no memory, and what is pending stays so
pub record IsDrop (name : List ℕ) (result : Result (Unit {0}) Refusal) (old new : Book) : Type 0 where
  pub step : Serves (IsStep old.state (Drop name)) result old.state new.state []
  pub pending : new.pending ≡ old.pending
  pub counts : SameCounts old new
  pub no_memory : result ≢ Err Memory

-- `as`: takes no memory where the session is there
pub record IsAs (name : List ℕ) (result : Result (Unit {0}) Refusal) (old new : Book) : Type 0 where
  pub step : Serves (IsStep old.state (As name)) result old.state new.state []
  pub there : has_session old.state.sessions name ≡ true → new.pending ≡ old.pending
  pub made : has_session old.state.sessions name ≡ false → OnOk result (HasNewSession old.state.stored.sheet old.pending new.pending)
  pub refused : OnErr result (new.pending ≡ old.pending)
  pub counts : SameCounts old new
  pub no_memory : has_session old.state.sessions name ≡ true → result ≢ Err Memory

-- a call did as an answer says, and appended its records
abbrev pub ServesInto : (Answer → Type 0) → Result (Unit {0}) Refusal → State → State → List ℕ → List ℕ → Type 0
ServesInto IsAnswer result old new before after = (records : List ℕ) × (after ≡ before ++ records) × Serves IsAnswer result old new records

-- A command that only looks at cells: what is pending stays so, and no more is counted than these cases demand.
pub record Looks (c : Command) (cases : List Case) (result : Result (Unit {0}) Refusal) (old new : Book) (before after : List ℕ) : Type 0 where
  pub step : ServesInto (IsStep old.state c) result old.state new.state before after
  pub pending : new.pending ≡ old.pending
  pub cost : Costs old.state.stored.sheet cases (counts old) (counts new)

-- `changes`: where no cell is pending for the current session, it takes no memory, counts nothing and tells nothing
pub record IsChanges (result : Result (Unit {0}) Refusal) (old new : Book) (before after : List ℕ) : Type 0 where
  pub step : ServesInto (IsStep old.state Changes) result old.state new.state before after
  pub emptied : OnOk result (new.pending ≡ slice_set old.pending old.state.current [])
  pub refused : OnErr result (new.pending ≡ old.pending)
  pub quiet : pending_for old.pending old.state.current ≡ [] → SameCounts old new × (after ≡ before)
  pub quiet_ok : pending_for old.pending old.state.current ≡ [] → is_ok result ≡ true
  pub cost : Costs old.state.stored.sheet (asked_by_changes old.state old.pending) (counts old) (counts new)

-- ---- addresses and rectangles as operands: the sheet has them

pub record IsPlaced (a : ℕ) : Type 0 where
  pub inside : is_outside (cell a) ≡ false
  pub again : address (cell a) ≡ a

pub record IsSpanned (r : Area) : Type 0 where
  pub inside : (is_outside (corners r).0 || is_outside (corners r).1) ≡ false
  pub again : area (corners r) ≡ r

-- the operands of a table
pub record IsTablePlaced (f r : ℕ) (xs : Area) (y : Option (ℕ × Area)) : Type 0 where
  pub formula_cell : IsPlaced f
  pub input : IsPlaced r
  pub column : IsSpanned xs
  pub second : IfSome y (λ o. IsPlaced o.0 × IsSpanned o.1)
