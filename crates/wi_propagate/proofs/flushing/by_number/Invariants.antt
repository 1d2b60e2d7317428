use Rattle.wi_propagate.proofs.Words.{◌≡◌, ◌||◌, ◌+◌, ℕ, length, keys_of, is_one_of, second_cells}
use Rattle.wi_propagate.proofs.flushing.by_number.Given as goal

-- those that were listed, with those still to come, are all
abbrev pub invariant-loop : goal.invariant-loop
invariant-loop l = record {
  cells : (x : ℕ) → (is_one_of (second_cells l.order.items) x || is_one_of (keys_of l.rest) x) ≡ is_one_of (keys_of l.dirty.entries) x;
  left : length l.rest + l.counter ≡ length l.dirty.entries;
}
