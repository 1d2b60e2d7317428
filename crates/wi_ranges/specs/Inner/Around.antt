-- The rectangle around all that the pairs of a bag read.
use Rattle.std.specs.Prelude.{◌≡◌, ℕ, ◌<◌, Bool, true, false, Option, Some, None}
use Rattle.wi_values.specs.Address.{Area, is_within}
use Rattle.wi_ranges.specs.Bag.{Bag, count_of, pair_area}
use Rattle.wi_ranges.specs.declared.pair.RangePair.{RangePair}

-- there is a rectangle, and it has the cell
abbrev pub has_cell : Option Area → ℕ → Bool
has_cell None a = false
has_cell (Some r) a = is_within r a

-- it has each cell of each pair
abbrev pub IsAround : Option Area → Bag → Type 0
IsAround around bag = (p : RangePair) (a : ℕ) → 0 < count_of bag p → is_within (pair_area p) a ≡ true → has_cell around a ≡ true
