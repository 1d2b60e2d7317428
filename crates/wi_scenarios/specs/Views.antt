-- What each session is shown, and what has changed since it was last shown it.
use Rattle.std.specs.Prelude.{ℕ, List, []}
use Rattle.std.specs.List.{slice_index_or, slice_set}
use Rattle.wi_values.specs.declared.value.Value.{Value}
use Rattle.wi_values.specs.declared.replacement.Replacement.{Replacement}
use Rattle.wi_sheet.specs.Shown as cell
use Rattle.wi_scenario_list.specs.Scenarios.{chain, layered}
use Rattle.wi_scenario_list.specs.Inner.Chains.{effective}
use Rattle.wi_sessions.specs.Sessions.{Session, new_session}
use Rattle.wi_sessions.specs.Pictures.{changes_since}
use Rattle.wi_scenarios.specs.State.{State}

-- the i-th session
abbrev pub session_at : State → ℕ → Session
session_at s i = slice_index_or s.sessions i (new_session [])

abbrev pub current_session : State → Session
current_session s = slice_index_or s.sessions s.current (new_session [])

abbrev pub with_current : State → Session → State
with_current s x = record s { sessions = slice_set s.sessions s.current x }

abbrev pub current_replacements : State → List Replacement
current_replacements s = layered (chain s.scenarios (current_session s).scenario)

-- the replacements that a session's scenario puts in
abbrev pub replacements_for : State → Session → List Replacement
replacements_for s x = effective s.scenarios x.scenario

-- the value that a session is shown at a cell
abbrev pub shown_to : State → Session → ℕ → Value
shown_to s x a = cell.shown s.stored.sheet (replacements_for s x) a

-- what the current session would be told
abbrev pub change_list : State → List (ℕ × Value)
change_list s = changes_since (current_session s).picture (cell.shown s.stored.sheet (current_replacements s))
