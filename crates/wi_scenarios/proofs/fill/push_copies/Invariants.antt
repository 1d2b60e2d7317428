use Rattle.wi_scenarios.proofs.Words.{◌≤◌, ◌+◌, ◌-◌, List, ◌++◌, option_copied, AreCopies, cells_in, ℕ}
use Rattle.wi_scenarios.proofs.fill.push_copies.Given as goal

-- the cells before this column have got their copies
abbrev pub invariant-loop-column : goal.invariant-loop-column
invariant-loop-column l = record {
  within : l.column ≤ l.first + (l.column-end - l.first);
  copied : (cells : List ℕ) → AreCopies (option_copied l.content) l.from cells l.fn.changes.items → AreCopies (option_copied l.content) l.from (cells ++ cells_in l.row l.first (l.column - l.first)) l.changes.items;
}
