-- What a cell shows under replacements.
use Rattle.std.specs.Prelude.{ℕ, List, if◌then◌else◌}
use Rattle.wi_values.specs.declared.value.Value.{Value}
use Rattle.wi_values.specs.declared.value.Value.TheVariants.{Fault}
use Rattle.wi_values.specs.declared.value.ErrorKind.TheVariants.{Circular}
use Rattle.wi_values.specs.declared.replacement.Replacement.{Replacement}
use Rattle.wi_parser.specs.Sheet.{Sheet, put_all}
use Rattle.wi_graph.specs.Circular.{circular}
use Rattle.wi_sheet.specs.CellValue.{cell_value}

-- No replacement cuts a cycle.
unfoldable pub shown : Sheet → List Replacement → ℕ → Value
shown s p c = if circular s c then Fault Circular else cell_value (put_all s p) c
