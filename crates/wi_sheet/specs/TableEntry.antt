-- What an entry of a data table shows, and what it demands.
use Rattle.std.specs.Prelude.{ℕ, ◌||◌, if◌then◌else◌, List, [], ◌++◌}
use Rattle.std.specs.List.{list_any, flat_map}
use Rattle.wi_values.specs.declared.value.Value.{Value}
use Rattle.wi_values.specs.declared.value.Value.TheVariants.{Fault}
use Rattle.wi_values.specs.declared.value.ErrorKind.TheVariants.{Circular}
use Rattle.wi_values.specs.declared.replacement.Replacement.{Replacement}
use Rattle.wi_parser.specs.Sheet.{Sheet, put_all}
use Rattle.wi_functions.specs.Meaning.{zero_for_empty}
use Rattle.wi_graph.specs.Circular.{circular}
use Rattle.wi_sheet.specs.CellValue.{cell_value, what_if_in}
use Rattle.wi_sheet.specs.Demand.{Case, case_of, what_if_case, demand, different}

-- Circular where its formula cell or a replacement cell is, in the sheet as it stands; else the what-if's value under
-- the replacements, as that of a formula in a cell that nothing reads: Empty becomes 0.
unfoldable pub table_entry : Sheet → List Replacement → ℕ → List (ℕ × ℕ) → Value
table_entry s p f pairs =
    if circular s f || list_any (λ x. circular s x.1) pairs then Fault Circular
    else zero_for_empty (what_if_in cell_value (put_all s p) f pairs)

-- the cases that an entry demands which isn't circular: those of its replacement cells, and of its formula cell with
-- the inputs replaced
abbrev pub open_demand : Sheet → List Replacement → ℕ → List (ℕ × ℕ) → List Case
open_demand s w f pairs = flat_map (λ x. demand s (case_of s w x.1)) pairs ++ demand s (what_if_case s w (f, pairs))

-- the cases that an entry demands: none where it is circular
abbrev pub table_demand : Sheet → List Replacement → ℕ → List (ℕ × ℕ) → List Case
table_demand s w f pairs = if circular s f || list_any (λ x. circular s x.1) pairs then [] else open_demand s w f pairs

-- the different ones of these
abbrev pub entry_demanded : Sheet → List Replacement → ℕ → List (ℕ × ℕ) → List Case
entry_demanded s w f pairs = different (table_demand s w f pairs)
