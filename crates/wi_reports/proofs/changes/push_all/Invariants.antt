use Rattle.wi_reports.proofs.Words.{◌≡◌, ◌++◌, drop, StartsWith, change_records}
use Rattle.wi_reports.proofs.changes.push_all.Given as goal

-- the records before this change are written
abbrev pub invariant-loop-change : goal.invariant-loop-change
invariant-loop-change l =
    record {
      written : l.out.items ++ change_records (drop l.change-index l.changes) ≡ l.fn.out.items ++ change_records l.changes;
      kept : StartsWith l.out.items l.fn.out.items;
    }
