-- Which scenario is based on which.
use Rattle.std.specs.Prelude.{◌≡◌, ◌≤◌, Bool, false, not, List, [], ◌∷◌, length, Option, Some, None}
use Rattle.wi_values.specs.Name.{Bytes}
use Rattle.std.specs.List.{list_any}
use Rattle.std.specs.Str.{bytes_eq}
use Rattle.wi_scenario_list.specs.Scenarios.{Scenario, is_named, scenario_of, has_scenario, max_scenarios, chain}

-- whether a scenario is the other, or is based on the other at any remove
abbrev pub rests_on : List Scenario → Bytes → Bytes → Bool
rests_on xs name other = list_any (is_named other) (chain xs (Some name))

-- whether a name is given, and is this one
abbrev pub is_name_of : Bytes → Option Bytes → Bool
is_name_of name None = false
is_name_of name (Some other) = bytes_eq name other

-- whether this is the base scenario of some other
abbrev pub is_base : List Scenario → Bytes → Bool
is_base xs name = list_any (λ x. is_name_of name x.base) xs

-- another scenario is named that isn't there
abbrev pub lacks : List Scenario → Option Bytes → Bool
lacks xs None = false
lacks xs (Some other) = not (has_scenario xs other)

-- based on this other, the scenario would be based on itself, at any remove: the other is it, or is based on it
abbrev pub would_loop : List Scenario → Bytes → Option Bytes → Bool
would_loop xs name None = false
would_loop xs name (Some other) = rests_on xs other name

-- a scenario with this base scenario, or with none
abbrev pub based_on : Scenario → Option Bytes → Scenario
based_on x other = record x { base = other }

-- a scenario, its base scenario, that one's, and so on, to one that has none
pub data IsChain (xs : List Scenario) : Option Scenario → List Scenario → Type 0 where
  ended : IsChain xs None []
  based : (x : Scenario) (bases : List Scenario) → IsChain xs (scenario_of xs x.base) bases → IsChain xs (Some x) (x ∷ bases)

-- the chain of the scenario of this name, if it has one of at most `max_scenarios`; else any list
abbrev pub IsChainOf : List Scenario → Option Bytes → List Scenario → Type 0
IsChainOf xs name ys = (zs : List Scenario) → IsChain xs (scenario_of xs name) zs → length zs ≤ max_scenarios → ys ≡ zs

-- There are no more scenarios than may be. Each has a chain, of no more than may be, so that none is based on itself,
-- at any remove; and none is based on one that isn't there.
pub record HasChains (xs : List Scenario) : Type 0 where
  pub few : length xs ≤ max_scenarios
  pub chains : (name : Option Bytes) → (ys : List Scenario) × IsChain xs (scenario_of xs name) ys × (length ys ≤ max_scenarios)
  pub whole : list_any (λ x. lacks xs x.base) xs ≡ false
