use Rattle.wi_ranges.proofs.Words.{◌≡◌, ◌||◌, ℕ, take, nat_cmp, contains, is_one_of}
use Rattle.wi_ranges.proofs.few.insert_all.Given as goal

abbrev pub invariant-loop-cell : goal.invariant-loop-cell
invariant-loop-cell l = (r : ℕ) → contains nat_cmp l.set r ≡ (contains nat_cmp l.initial.set r || is_one_of (take l.cell-index l.cells) r)
