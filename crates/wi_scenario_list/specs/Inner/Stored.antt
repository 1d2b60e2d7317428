-- What scenarios are held as.
use Rattle.std.specs.Prelude.{◌≡◌, ℕ, List, map, Option}
use Rattle.std.specs.Option.{option_map}
use Rattle.std.specs.Rc.{rc_str_bytes}
use Rattle.std.specs.declared.rc.RcStr.{RcStr}
use Rattle.wi_values.specs.Replacements.{as_replacements}
use Rattle.wi_values.specs.declared.replacement.Replacement.{Replacement}
use Rattle.wi_scenario_list.specs.declared.layer.Layer.{Layer}
use Rattle.wi_scenario_list.specs.Scenarios.{Scenario}

-- a scenario's own replacements
abbrev pub own_of : Layer → List Replacement
own_of l = as_replacements l.own.value.entries

-- the name of its base scenario
abbrev pub base_of : Layer → Option (List ℕ)
base_of l = option_map rc_str_bytes l.base

-- a clone has the same
abbrev pub IsSame : Layer → Layer → Type 0
IsSame l m = (own_of m ≡ own_of l) × (base_of m ≡ base_of l)

-- the scenario of a name with what it holds beside it
abbrev pub with_name : List ℕ → Layer → Scenario
with_name name l = record { name = name; own = own_of l; base = base_of l }

abbrev pub scenario_in : {Z : Type 0} → RcStr Z × Layer → Scenario
scenario_in e = with_name (rc_str_bytes e.0) e.1

-- the scenarios that stand as entries of a map by their names
abbrev pub stored : {Z : Type 0} → List (RcStr Z × Layer) → List Scenario
stored es = map scenario_in es
