-- What a workbook holds.
use Rattle.std.specs.Prelude.{ℕ, List, [], ◌∷◌, codes}
use Rattle.wi_edit_log.specs.EditLog.{Entry}
use Rattle.wi_store.specs.Store.{Stored}
use Rattle.wi_scenario_list.specs.Scenarios.{Scenario}
use Rattle.wi_sessions.specs.Sessions.{Session, new_session}

pub record State : Type 0 where
  pub stored : Stored
  -- each in the order of making
  pub scenarios : List Scenario
  pub sessions : List Session
  -- the current one of the sessions, counted from 0
  pub current : ℕ
  pub log : List Entry

-- a new workbook over a sheet has the one session `main`
abbrev pub state_over : Stored → State
state_over stored =
    record { stored = stored; scenarios = []; sessions = new_session (codes "main") ∷ []; current = 0; log = [] }

-- a new workbook: an empty sheet with no edit yet, and the limits of the program
abbrev pub new_state : State
new_state = state_over (record { sheet = []; edits = 0; limits = record { cells = 200000; edits = 1000000000 } })

abbrev pub max_area : ℕ
max_area = 65536
