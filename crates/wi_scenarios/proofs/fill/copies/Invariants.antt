use Rattle.wi_scenarios.proofs.Words.{◌≤◌, ◌+◌, ◌-◌, option_copied, AreCopies, rows_from}
use Rattle.wi_scenarios.proofs.fill.copies.Given as goal

-- the rows before this one have got their copies
abbrev pub invariant-loop-row : goal.invariant-loop-row
invariant-loop-row l = record {
  within : l.row ≤ l.first + (l.row-end - l.first);
  copied : AreCopies (option_copied l.content) l.from (rows_from l.area l.first (l.row - l.first)) l.changes.items;
}
