use Rattle.wi_tiles.proofs.Words.{◌≡◌, ◌-◌, ◌≤◌, ℕ, None, length, at_window}
use Rattle.wi_tiles.proofs.window.vacant_from.Given as goal

abbrev pub invariant-more : goal.invariant-more
invariant-more g l = record { short : length l.made.items ≤ l.count; nothing : (p : ℕ) → at_window g.T.Places.at (l.index, l.made.items) p ≡ None }

abbrev pub decreases-more : goal.decreases-more
decreases-more g l = l.count - length l.made.items
