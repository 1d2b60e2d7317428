-- What the chain of a scenario puts in, and which scenarios are in a part of it.
use Rattle.std.specs.Prelude.{ℕ, Bool, List, Option}
use Rattle.std.specs.List.{list_any}
use Rattle.wi_values.specs.declared.replacement.Replacement.{Replacement}
use Rattle.wi_scenario_list.specs.Scenarios.{Scenario, is_named, scenario_of, chain, chain_within, layered}

-- what a scenario puts in; where none is named, nothing
abbrev pub effective : List Scenario → Option (List ℕ) → List Replacement
effective xs name = layered (chain xs name)

-- whether the first so many, of the scenario of a name and those that it is based on, have the other
abbrev pub is_in_chain : ℕ → List Scenario → Option (List ℕ) → List ℕ → Bool
is_in_chain bound xs name other = list_any (is_named other) (chain_within bound xs (scenario_of xs name))
