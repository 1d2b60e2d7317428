use Rattle.wi_tiles.proofs.Words.{◌≡◌, ◌-◌, ◌<◌, ◌≤◌, ℕ, None, length, slice_get, at_part}
use Rattle.wi_tiles.proofs.window.vacant_before.Given as goal

abbrev pub invariant-loop-place : goal.invariant-loop-place
invariant-loop-place g l = record { within : l.place ≤ length l.parts; vacant : (i p : ℕ) → i < l.place → at_part g.T.Places.at (slice_get l.parts i) p ≡ None }

abbrev pub decreases-loop-place : goal.decreases-loop-place
decreases-loop-place g l = length l.parts - l.place
