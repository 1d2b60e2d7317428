use Rattle.wi_import.proofs.Words.{◌≡◌, ◌++◌, map, false, list_any, fields_of, change_of, bytes_of, is_faulty}
use Rattle.wi_import.proofs.FieldLemmas.{cells_left}
use Rattle.wi_import.proofs.changes.push_record.Given as goal

-- the changes so far, and those of what is left, are all
abbrev pub invariant-loop-j : goal.invariant-loop-j
invariant-loop-j l = record {
  whole : l.changes.items ++ map change_of (cells_left l.row l.column l.j l.fields)
      ≡ l.fn.changes.items ++ map change_of (fields_of l.row l.column (bytes_of l.fields));
  sound : list_any is_faulty (cells_left l.row l.column l.j l.fields) ≡ false;
}
