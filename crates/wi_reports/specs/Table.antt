-- `table F R XCOLUMN`: for each cell X of the column its shown text, and the entry MULTIPLE.OPERATIONS(F;R;X).
-- `table F R XCOLUMN C YROW`: first an empty field and the shown texts of the row; then for each X its shown text, and
-- for each Y the entry MULTIPLE.OPERATIONS(F;R;X;C;Y).
use Rattle.std.specs.Prelude.{ℕ, List, [], ◌∷◌, ◌++◌, map, Option, Some, None}
use Rattle.std.specs.List.{flat_map}
use Rattle.wi_values.specs.Address.{Area, cells_of}
use Rattle.wi_values.specs.Value.{shown_text}
use Rattle.wi_values.specs.declared.replacement.Replacement.{Replacement}
use Rattle.wi_parser.specs.Sheet.{Sheet}
use Rattle.wi_sheet.specs.TableEntry.{table_entry}
use Rattle.wi_csv.specs.Row.{row}
use Rattle.wi_reports.specs.Rows.{text_under}
use Rattle.wi_fraction.specs.Text.{Bytes}

module _ (sheet : Sheet) (put : List Replacement) where
  abbrev pub entry_text : ℕ → List (ℕ × ℕ) → Bytes
  entry_text f pairs = shown_text (table_entry sheet put f pairs)

  abbrev pub entries_beside : ℕ → ℕ → Option (ℕ × Area) → ℕ → List Bytes
  entries_beside f r None x = entry_text f ((r, x) ∷ []) ∷ []
  entries_beside f r (Some second) x = map (λ y. entry_text f ((r, x) ∷ (second.0, y) ∷ [])) (cells_of second.1)

  abbrev pub head : Option (ℕ × Area) → Bytes
  head None = []
  head (Some second) = row ([] ∷ map (text_under sheet put) (cells_of second.1))

  abbrev pub table_of : ℕ → ℕ → Area → Option (ℕ × Area) → Bytes
  table_of f r xs second =
      head second ++ flat_map (λ x. row (text_under sheet put x ∷ entries_beside f r second x)) (cells_of xs)
