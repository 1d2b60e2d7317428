use Rattle.wi_import.proofs.Words.{◌≡◌, list_any, row_of, column_of, fields_from, is_outside, all_bytes}
use Rattle.wi_import.proofs.FieldLemmas.{fields_left}
use Rattle.wi_import.proofs.checking.leaves_sheet.Given as goal

-- what is outside is in what is left
abbrev pub invariant-loop-i : goal.invariant-loop-i
invariant-loop-i l =
    list_any is_outside (fields_left (row_of l.at) (column_of l.at) l.i l.records) ≡ list_any is_outside (fields_from (row_of l.at) (column_of l.at) (all_bytes l.records))
