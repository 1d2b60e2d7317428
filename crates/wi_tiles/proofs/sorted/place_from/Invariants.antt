use Rattle.wi_tiles.proofs.Words.{◌-◌, ◌<◌, ◌≤◌, ℕ, length, key}
use Rattle.wi_tiles.proofs.sorted.place_from.Given as goal

abbrev pub invariant-loop-low : goal.invariant-loop-low
invariant-loop-low g l = record { order : l.low ≤ l.high; within : l.high ≤ length l.parts; below : (i : ℕ) → i < l.low → key l.parts i < l.group; above : (i : ℕ) → l.high ≤ i → i < length l.parts → l.group ≤ key l.parts i }

abbrev pub decreases-loop-low : goal.decreases-loop-low
decreases-loop-low g l = l.high - l.low
