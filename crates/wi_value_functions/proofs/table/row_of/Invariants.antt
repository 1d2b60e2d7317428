use Rattle.wi_value_functions.proofs.Words.{◌-◌, ◌≤◌, length}
use Rattle.wi_value_functions.proofs.Searching.{IsWithin}
use Rattle.wi_value_functions.proofs.table.row_of.Given as goal

-- if a row has the name, it stands from `from` up to `to`
abbrev pub invariant-loop-from : goal.invariant-loop-from
invariant-loop-from l = (l.to ≤ length l.rows) × IsWithin (λ row. row.name.now) l.name l.rows l.from l.to

abbrev pub decreases-loop-from : goal.decreases-loop-from
decreases-loop-from l = l.to - l.from
