-- Scenarios worked by hand.
use Rattle.wi_scenario_list.proofs.Words.{◌≡◌, ℕ, true, false, [], ◌∷◌, Some, None, refl, codes, place, Value, Logical, Replacement, Scenario, with_scenario, with_own, chain, effective}

abbrev by : ℕ → Value → Replacement
by a v = record { at = a; value = v }

abbrev b1 : ℕ
b1 = place 0 1

abbrev b3 : ℕ
b3 = place 2 1

-- low makes B1 TRUE; lower, which is based on low, makes B3 FALSE
abbrev low : Scenario
low = record { name = codes "low"; own = by b1 (Logical true) ∷ []; base = None }

abbrev lower : Scenario
lower = record { name = codes "lower"; own = by b3 (Logical false) ∷ []; base = Some (codes "low") }

-- lower with FALSE in B1 too
abbrev lowest : Scenario
lowest = with_own lower (by b1 (Logical false) ∷ [])

-- of one cell the scenario's own replacement counts, not that of its base scenario
overrides : effective (low ∷ lowest ∷ []) (Some (codes "lower")) ≡ by b1 (Logical false) ∷ by b3 (Logical false) ∷ []
unfolding chain
overrides = refl

-- a changed scenario keeps its place
in_its_place : with_scenario (lower ∷ low ∷ []) lowest ≡ lowest ∷ low ∷ []
in_its_place = refl
