-- What a command leaves, and what the laws of `Events` are told of commands: which one asks for the change list, and
-- what edits name.
use Rattle.std.specs.Prelude.{◌≡◌, ◌≢◌, ◌∷◌, ◌++◌}
use Rattle.wi_scenarios.specs.Words.{ℕ, Bool, true, false, List, [], length, Option, Some, None, Area, chain, scenario_of, told, using_scenario, with_session, index_of, State, current_session, with_current, change_list}
use Rattle.wi_scenario_list.specs.Bases.{HasChains, IsChain}
use Rattle.wi_scenarios.specs.Events.{Event, MayFollow, state_after}
use Rattle.wi_scenarios.specs.Commands.Command.{Command, Set, Clear, Fill, Csv, Scenario, Drop, Base, Use, As, Changes}
use Rattle.wi_scenarios.specs.Commands.Edits.{named}
use Rattle.wi_scenarios.specs.Commands.Step.{IsStep}

-- ---- what a command leaves

-- An edit that names these rectangles may change the sheet, and puts an entry into the log. All else is as it was.
pub record IsEdited (named : List Area) (old new : State) : Type 0 where
  pub scenarios : new.scenarios ≡ old.scenarios
  pub sessions : new.sessions ≡ old.sessions
  pub current : new.current ≡ old.current
  pub log : new.log ≡ old.log ++ record { session = old.current; areas = named } ∷ []

-- The scenario of this name may be made, changed or removed. All else is as it was.
pub record HasScenarioChanged (name : List ℕ) (old new : State) : Type 0 where
  pub stored : new.stored ≡ old.stored
  pub others : (other : List ℕ) → other ≢ name → scenario_of new.scenarios (Some other) ≡ scenario_of old.scenarios (Some other)
  pub sessions : new.sessions ≡ old.sessions
  pub current : new.current ≡ old.current
  pub log : new.log ≡ old.log

-- What an accepted command leaves. No other than these leaves anything but the state that was there.
abbrev pub Leaves : Command → State → State → Type 0
Leaves (Set force at text) old new = IsEdited (named (Set force at text)) old new
Leaves (Clear force rect) old new = IsEdited (named (Clear force rect)) old new
Leaves (Fill force at rect) old new = IsEdited (named (Fill force at rect)) old new
Leaves (Csv force at n lines) old new = IsEdited (named (Csv force at n lines)) old new
Leaves (Scenario name at text) old new = HasScenarioChanged name old new
Leaves (Drop name) old new = HasScenarioChanged name old new
Leaves (Base name other) old new = HasScenarioChanged name old new
Leaves (Use name) old new = new ≡ with_current old (using_scenario (current_session old) name)
Leaves (As name) old new = new ≡ record old { sessions = with_session old.sessions name; current = index_of old.sessions name }
Leaves Changes old new = new ≡ with_current old (told (current_session old) (change_list old) (length old.log))
Leaves c old new = new ≡ old

-- ---- what the laws of commands one after another are told of them

-- whether this is `changes`
abbrev pub is_changes : Command → Bool
is_changes Changes = true
is_changes c = false

-- the rectangles that an edit names; no other command is an edit
abbrev pub named_by : Command → Option (List Area)
named_by (Set force at text) = Some (named (Set force at text))
named_by (Clear force rect) = Some (named (Clear force rect))
named_by (Fill force at rect) = Some (named (Fill force at rect))
named_by (Csv force at n lines) = Some (named (Csv force at n lines))
named_by c = None

-- ---- chains

-- where the scenarios have chains, those at the end have chains
abbrev pub KeepsChains : State → List (Event Command) → Type 0
KeepsChains s es = HasChains s.scenarios → MayFollow IsStep s es → HasChains (state_after s es).scenarios

-- where the scenarios have chains, what `chain` gives is the chain
abbrev pub GivesChain : State → Option (List ℕ) → Type 0
GivesChain s name = HasChains s.scenarios → IsChain s.scenarios (scenario_of s.scenarios name) (chain s.scenarios name)
