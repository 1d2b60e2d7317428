-- Which cells are recorded to reach which others.
use Rattle.std.specs.Prelude.{◌≡◌, ◌⊎◌, ℕ, Bool, true, List, [], nat_eq}
use Rattle.std.specs.Map.{lookup}
use Rattle.std.specs.Option.{unwrap_or}
use Rattle.wi_values.specs.Address.{is_one_of}
use Rattle.wi_values.specs.declared.replacement.Replacement.{Replacement}

-- by a cell, those that it is recorded to reach
abbrev pub Recorded : Type 0
Recorded = List (ℕ × List ℕ)

-- the cells that the cell c is recorded to reach
abbrev pub recorded_cells : Recorded → ℕ → List ℕ
recorded_cells es c = unwrap_or (lookup (nat_eq c) es) []

-- c is recorded to reach a
abbrev pub has_recorded : Recorded → ℕ → ℕ → Bool
has_recorded es c a = is_one_of (recorded_cells es c) a

-- the cells of which it is known which reach them, and what is recorded
pub record ReachTable : Type 0 where
  pub known : List ℕ
  pub reached : Recorded

-- it is known of the cell a which cells reach it
abbrev pub is_known : ReachTable → ℕ → Bool
is_known t a = is_one_of t.known a

abbrev pub reached_cells : ReachTable → ℕ → List ℕ
reached_cells t c = recorded_cells t.reached c

abbrev pub reached_by : ReachTable → ℕ → ℕ → Bool
reached_by t c a = has_recorded t.reached c a

-- c is recorded to reach the replaced address
abbrev pub is_reached_by : ReachTable → ℕ → Replacement → Bool
is_reached_by t c r = reached_by t c r.at

-- the address of the replacement is one of these
abbrev pub is_of : List ℕ → Replacement → Bool
is_of cells r = is_one_of cells r.at

-- what was recorded stays, and what came is that one of these cells reaches a
pub record AddsOf (a : ℕ) (cells : List ℕ) (old new : Recorded) : Type 0 where
  pub stays : (c b : ℕ) → has_recorded old c b ≡ true → has_recorded new c b ≡ true
  pub within : (c b : ℕ) → has_recorded new c b ≡ true → (has_recorded old c b ≡ true) ⊎ ((is_one_of cells c ≡ true) × (b ≡ a))
