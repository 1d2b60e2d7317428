use Rattle.wi_tiles.proofs.Words.{◌-◌, ◌≤◌, ◌<◌, ℕ, IsBare, part_from}
use Rattle.wi_tiles.proofs.bare.past_bands.Given as goal

abbrev pub invariant-loop-index : goal.invariant-loop-index
invariant-loop-index g l = record { later : l.fn.from ≤ l.index; within : l.index ≤ 256; bare : (i : ℕ) → l.fn.from ≤ i → i < l.index → IsBare l.area (part_from l.page i) }

abbrev pub decreases-loop-index : goal.decreases-loop-index
decreases-loop-index g l = 256 - l.index
