-- What a command does that is accepted.
use Rattle.std.specs.Prelude.{◌≡◌, ◌∷◌}
use Rattle.wi_scenarios.specs.Words.{length, List, [], Some, option_map, Bytes, Value, IsImported, scenario_for, with_scenario, without_scenario, with_own, without_own, chain, layered, shown, with_session, index_of, with_changes, change_records, State, current_session, with_current, current_replacements, change_list}
use Rattle.wi_scenario_list.specs.Scenarios as list
use Rattle.wi_reports.specs.Rows.{rows_shown, export_of}
use Rattle.wi_reports.specs.Compare.{cells_compared}
use Rattle.wi_reports.specs.Table.{table_of}
use Rattle.wi_reports.specs.Contents.{content_record}
use Rattle.wi_scenarios.specs.Commands.Operands.{address, area}
use Rattle.wi_scenarios.specs.Commands.Command.{Command, Scenario, Drop, Base, Use, As, Show, Export, Changes, Compare, Table, Formula}
use Rattle.wi_scenarios.specs.Commands.Edits.{after_edit, Put, Puts}

module _ (s : State) where
  abbrev pub state_with : list.Scenario → State
  state_with x = record s { scenarios = with_scenario s.scenarios x }

  -- the state that is left, and the records that are written
  abbrev pub Does : Command → State × Bytes → Type 0
  -- Takes the replacement away, if there is one.
  Does (Scenario name at []) done = done ≡ (state_with (without_own (scenario_for s.scenarios name) (address at)), [])
  -- Puts a replacement by the import rule, and makes the scenario if there is none.
  Does (Scenario name at text) done =
      (v : Value) × IsImported text (Some v)
      × (done ≡ (state_with (with_own (scenario_for s.scenarios name) (record { at = address at; value = v } ∷ [])), []))
  Does (Drop name) done = done ≡ (record s { scenarios = without_scenario s.scenarios name }, [])
  Does (Base name other) done = done ≡ (state_with (record (scenario_for s.scenarios name) { base = other }), [])
  Does (Use name) done = done ≡ (with_current s (record (current_session s) { scenario = name }), [])
  Does (As name) done =
      done ≡ (record s { sessions = with_session s.sessions name; current = index_of s.sessions name }, [])
  Does (Show rect) done = done ≡ (s, rows_shown (shown s.stored.sheet (current_replacements s)) (area rect))
  Does (Export rect) done = done ≡ (s, export_of (rows_shown (shown s.stored.sheet (current_replacements s)) (area rect)))
  Does Changes done =
      done ≡ (
        with_current s (record (current_session s) { picture = with_changes (current_session s).picture (change_list s); seen = length s.log }),
        change_records (change_list s),
      )
  Does (Compare p q rect) done =
      done ≡ (
        s,
        cells_compared (shown s.stored.sheet (layered (chain s.scenarios p))) (shown s.stored.sheet (layered (chain s.scenarios q)))
            (area rect),
      )
  Does (Table f r xs second) done =
      done ≡ (
        s,
        table_of s.stored.sheet (current_replacements s) (address f) (address r) (area xs)
            (option_map (λ y. (address y.0, area y.1)) second),
      )
  Does (Formula at) done = done ≡ (s, content_record s.stored.sheet (address at))
  -- An edit puts contents, and stands in the log.
  Does c done = (puts : List Put) × Puts s c puts × (done ≡ (after_edit s c puts, []))
