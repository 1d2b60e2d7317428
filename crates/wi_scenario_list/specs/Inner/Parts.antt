-- Parts of a scenario that is found, made or changed.
use Rattle.std.specs.Prelude.{◌==◌, ℕ, not, List, [], filter, Option, None, unwrap_or}
use Rattle.wi_values.specs.declared.replacement.Replacement.{Replacement}
use Rattle.wi_scenario_list.specs.Scenarios.{Scenario}

-- replacements without the one for an address
abbrev pub without_replacement : List Replacement → ℕ → List Replacement
without_replacement rs a = filter (λ r. not (r.at == a)) rs

-- the scenario that is there, or else a new one, which replaces nothing and is based on none
abbrev pub scenario_or_new : List ℕ → Option Scenario → Scenario
scenario_or_new name o = unwrap_or o (record { name = name; own = []; base = None })
