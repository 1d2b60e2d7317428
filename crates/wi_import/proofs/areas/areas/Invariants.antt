use Rattle.wi_import.proofs.Words.{◌≡◌, ◌++◌, false, list_any, row_of, column_of, areas_from, is_outside, all_bytes}
use Rattle.wi_import.proofs.AreaLemmas.{areas_left}
use Rattle.wi_import.proofs.FieldLemmas.{fields_left}
use Rattle.wi_import.proofs.areas.areas.Given as goal

-- the rectangles so far, and those of what is left, are all
abbrev pub invariant-loop-i : goal.invariant-loop-i
invariant-loop-i l = record {
  whole : l.areas.items ++ areas_left (row_of l.at) (column_of l.at) l.i l.records ≡ areas_from (row_of l.at) (column_of l.at) (all_bytes l.records);
  inside : list_any is_outside (fields_left (row_of l.at) (column_of l.at) l.i l.records) ≡ false;
}
