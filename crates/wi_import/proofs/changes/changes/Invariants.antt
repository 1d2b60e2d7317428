use Rattle.wi_import.proofs.Words.{◌≡◌, ◌++◌, map, false, list_any, row_of, column_of, fields_from, change_of, all_bytes, is_faulty}
use Rattle.wi_import.proofs.FieldLemmas.{fields_left}
use Rattle.wi_import.proofs.changes.changes.Given as goal

-- the changes so far, and those of what is left, are all
abbrev pub invariant-loop-i : goal.invariant-loop-i
invariant-loop-i l = record {
  whole : l.changes.items ++ map change_of (fields_left (row_of l.at) (column_of l.at) l.i l.records)
      ≡ map change_of (fields_from (row_of l.at) (column_of l.at) (all_bytes l.records));
  sound : list_any is_faulty (fields_left (row_of l.at) (column_of l.at) l.i l.records) ≡ false;
}
