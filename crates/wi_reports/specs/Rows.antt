-- `show RECT`: one record for each row, the shown texts. `export RECT`: the line `lines N`, then the records of `show`.
use Rattle.std.specs.Prelude.{ℕ, ◌==◌, List, ◌++◌, map, codes, decimal}
use Rattle.std.specs.List.{flat_map, count_by}
use Rattle.std.specs.Str.{byte}
use Rattle.wi_values.specs.Address.{Area, rows_in, cells_of_row}
use Rattle.wi_values.specs.Value.{shown_text}
use Rattle.wi_values.specs.declared.replacement.Replacement.{Replacement}
use Rattle.wi_values.specs.declared.value.Value.{Value}
use Rattle.wi_parser.specs.Sheet.{Sheet}
use Rattle.wi_sheet.specs.Shown.{shown}
use Rattle.wi_csv.specs.Row.{row}
use Rattle.wi_fraction.specs.Text.{Bytes}

abbrev pub text_under : Sheet → List Replacement → ℕ → Bytes
text_under sheet put c = shown_text (shown sheet put c)

-- where `value` gives what each cell shows
abbrev pub rows_shown : (ℕ → Value) → Area → Bytes
rows_shown value area = flat_map (λ r. row (map (λ c. shown_text (value c)) (cells_of_row r area))) (rows_in area)

abbrev pub export_of : Bytes → Bytes
export_of records = codes "lines " ++ decimal (count_by (λ b. b == byte "\n") records) ++ codes "\n" ++ records
