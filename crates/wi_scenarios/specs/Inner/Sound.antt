-- What the fields of a workbook stand for, and what holds of them between commands.
use Rattle.std.specs.Prelude.{◌≡◌, ◌<◌, ◌≤◌, ◌∷◌}
use Rattle.wi_scenarios.specs.Words.{ℕ, Bool, true, false, List, [], length, Result, OnOk, OnErr, Sheet, Stored, value_in, sheet_size, max_sessions, State, session_at, shown_to, Refusal}
use Rattle.std.specs.declared.alloc.AllocError.{AllocError}
use Rattle.wi_sessions.specs.Roster.{vacant_of}
use Rattle.wi_scenarios.specs.Pending.{Book, AddsOnly, is_pending}
use Rattle.wi_scenarios.specs.Commands.Command.{Command}
use Rattle.wi_scenarios.specs.Inner.Calls.{IsEditBy}
use Rattle.wi_scenarios.specs.declared.desk.Desk.{Desk}

-- the state of a sheet and of what is kept beside it
abbrev pub state_of : Stored → Desk → State
state_of stored d =
    record { stored = stored; scenarios = d.scenarios; sessions = d.sessions.sessions; current = d.current; log = d.log }

abbrev pub pending_in : Desk → List (List ℕ)
pending_in d = d.sessions.pending

abbrev pub book_of : Stored → ℕ → ℕ → Desk → Book
book_of stored evaluated restarted d =
    record { state = state_of stored d; pending = pending_in d; evaluated = evaluated; restarted = restarted }

-- `book_of` what a calculator tells
abbrev pub book_by : {C : Type 0} → (C → Stored) → (C → ℕ) → (C → ℕ) → C → Desk → Book
book_by stored evaluated restarted c d = book_of (stored c) (evaluated c) (restarted c) d

-- of each cell that isn't pending for it, the i-th session's picture has the value that it is shown
abbrev pub IsUpToDate : State → List (List ℕ) → ℕ → Type 0
IsUpToDate s pending i =
    (a : ℕ) → a < sheet_size → is_pending pending i a ≡ false → value_in (session_at s i).picture a ≡ shown_to s (session_at s i) a

abbrev pub AreCovered : State → List (List ℕ) → Type 0
AreCovered s pending = (i : ℕ) → i < length s.sessions → IsUpToDate s pending i

-- with each cell that passes the test those pass that it marks
abbrev pub IsClosed : (Sheet → List ℕ → ℕ → Bool) → Sheet → (ℕ → Bool) → Type 0
IsClosed marked sheet test = (a c : ℕ) → test a ≡ true → marked sheet (a ∷ []) c ≡ true → test c ≡ true

abbrev pub AreClosed : (Sheet → List ℕ → ℕ → Bool) → State → List (List ℕ) → Type 0
AreClosed marked s pending = (i : ℕ) → i < length s.sessions → IsClosed marked s.stored.sheet (is_pending pending i)

-- The current session is one of the sessions, of which there are no more than may be; each has its pending cells, with
-- each of them those that it marks, no vacant room, and a picture that is right in all other cells.
pub record IsSound (marked : Sheet → List ℕ → ℕ → Bool) (stored : Stored) (d : Desk) : Type 0 where
  pub within : d.current < length d.sessions.sessions
  pub few : length d.sessions.sessions ≤ max_sessions
  pub each : length d.sessions.pending ≡ length d.sessions.sessions
  pub full : (i : ℕ) → vacant_of d.sessions i ≡ []
  pub closed : AreClosed marked (state_of stored d) (pending_in d)
  pub covered : AreCovered (state_of stored d) (pending_in d)

-- What a command about scenarios leaves: it edits no cell, and whatever the calculator counted before, it counts
-- nothing more.
pub record ServesSound (marked : Sheet → List ℕ → ℕ → Bool) (c : Command) (result : Result (Unit {0}) Refusal) (stored : Stored) (old new : Desk) : Type 0 where
  pub edit : (evaluated restarted : ℕ) → IsEditBy marked [] c result (book_of stored evaluated restarted old) (book_of stored evaluated restarted new)
  pub sound : IsSound marked stored new

-- what a call leaves that makes another state of a desk, or runs out of memory
pub record MakesSound (marked : Sheet → List ℕ → ℕ → Bool) (result : Result (Unit {0}) AllocError) (stored : Stored) (made : State) (old new : Desk) : Type 0 where
  pub state : OnOk result (state_of stored new ≡ made)
  pub kept : OnErr result (state_of stored new ≡ state_of stored old)
  pub adds : AddsOnly marked [] (state_of stored old) (state_of stored new) (pending_in old) (pending_in new)
  pub refused : OnErr result (pending_in new ≡ pending_in old)
  pub sound : IsSound marked stored new
