use Rattle.wi_store.proofs.Words.{◌≡◌, ◌++◌, map, drop, change_without_empty}
use Rattle.wi_store.proofs.rooms.prepare.Given as goal

-- the rooms that were made, with those of the changes that are left, are all
abbrev pub invariant-loop-change : goal.invariant-loop-change
invariant-loop-change l = l.made.items ++ map change_without_empty (drop l.change-index l.changes) ≡ map change_without_empty l.initial.changes
