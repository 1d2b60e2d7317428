-- Scenarios by name, and the replacements that each puts in.
use Rattle.std.specs.Prelude.{◌==◌, ◌&&◌, ◌||◌, ℕ, zero, suc, Bool, not, nat_le, List, [], ◌∷◌, filter, length, map, Option, Some, None, unwrap_or, if◌then◌else◌}
use Rattle.std.specs.List.{find, list_any}
use Rattle.std.specs.Str.{bytes_eq}
use Rattle.wi_values.specs.Replacements.{is_replaced, overridden}
use Rattle.wi_values.specs.declared.replacement.Replacement.{Replacement}
use Rattle.wi_values.specs.Name.{Bytes}

pub record Scenario : Type 0 where
  pub name : Bytes
  -- its own replacements, in row-major order, one for each address
  pub own : List Replacement
  -- the name of its base scenario, if it has one
  pub base : Option Bytes

abbrev pub is_named : Bytes → Scenario → Bool
is_named name x = bytes_eq name x.name

abbrev pub max_scenarios : ℕ
max_scenarios = 64

abbrev pub max_replacements : ℕ
max_replacements = 256

module _ (xs : List Scenario) where
  abbrev pub scenario_of : Option Bytes → Option Scenario
  scenario_of None = None
  scenario_of (Some name) = find (is_named name) xs

  abbrev pub has_scenario : Bytes → Bool
  has_scenario name = list_any (is_named name) xs

  abbrev pub without_scenario : Bytes → List Scenario
  without_scenario name = filter (λ x. not (is_named name x)) xs

  abbrev pub scenario_for : Bytes → Scenario
  scenario_for name = unwrap_or (scenario_of (Some name)) (record { name = name; own = []; base = None })

  -- one scenario, or one replacement of its own, too many
  abbrev pub is_full : Bytes → ℕ → Bool
  is_full name at =
      (not (has_scenario name) && nat_le max_scenarios (length xs))
      || (not (is_replaced (scenario_for name).own at) && nat_le max_replacements (length (scenario_for name).own))

-- ---- what a scenario puts in

-- a scenario, its base scenario, that one's, and so on, so many at most
abbrev pub chain_within : ℕ → List Scenario → Option Scenario → List Scenario
chain_within zero xs o = []
chain_within (suc k) xs None = []
chain_within (suc k) xs (Some x) = x ∷ chain_within k xs (scenario_of xs x.base)

-- there are never more than may be, and none is based on itself
unfoldable pub chain : List Scenario → Option Bytes → List Scenario
chain xs name = chain_within max_scenarios xs (scenario_of xs name)

abbrev pub with_replacements : List Replacement → List Replacement → List Replacement
with_replacements rs others = map (λ e. record { at = e.0; value = e.1 }) (overridden (map (λ r. (r.at, r.value)) rs) others)

-- each overrides those after it
abbrev pub layered : List Scenario → List Replacement
layered [] = []
layered (x ∷ xs) = with_replacements (layered xs) x.own

-- ---- a scenario made or changed

-- in the place of the one of its name, or at the end
abbrev pub with_scenario : List Scenario → Scenario → List Scenario
with_scenario [] x = x ∷ []
with_scenario (y ∷ ys) x = if bytes_eq x.name y.name then x ∷ ys else y ∷ with_scenario ys x

abbrev pub with_own : Scenario → List Replacement → Scenario
with_own x rs = record x { own = with_replacements x.own rs }

abbrev pub without_own : Scenario → ℕ → Scenario
without_own x at = record x { own = filter (λ r. not (r.at == at)) x.own }
