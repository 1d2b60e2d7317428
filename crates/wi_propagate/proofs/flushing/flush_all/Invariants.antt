use Rattle.wi_propagate.proofs.Words.{◌≡◌, ℕ, None, true, length, keys_of, is_one_of, second_cells, has_visited}
use Rattle.wi_propagate.proofs.FlushingSteps.{IsFlushingOver}
use Rattle.wi_propagate.proofs.flushing.flush_all.Given as goal

abbrev pub invariant-cells : goal.invariant-cells
invariant-cells l = record {
  flushing : IsFlushingOver l.graph.now l.edited_at.entries l.valid_since.numbers (second_cells l.order.items) (has_visited l.visited) l.last;
  head : l.valid_since.head ≡ None;
  within : (x : ℕ) → is_one_of (second_cells l.order.items) x ≡ true → is_one_of (keys_of l.dirty.entries) x ≡ true;
}

abbrev pub decreases-cells : goal.decreases-cells
decreases-cells l = length l.order.items
