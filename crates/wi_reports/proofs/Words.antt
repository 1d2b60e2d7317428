-- The words of the library, of the crates below and of this crate's definitions that its proofs are written in.
pub use Rattle.std.proofs.Common.{Bool, Err, List, None, Ok, OnOk, Option, Result, Some, [], add-one, ap, append_assoc, arith, cond, drop, false, filter, get_or, if◌then◌else◌, is_ok, length, map, not, refl, rules, subst, suc, sym, true, zero, ℕ, ◌++◌, ◌+◌, ◌-◌, ◌<◌, ◌∙◌, ◌∷◌, ◌≡◌, ◌≤◌}
pub use Rattle.std.proofs.Transfers.{starts_with_trans}
pub use Rattle.std.proofs.lemmas.Bool.{eqb-true}
pub use Rattle.std.proofs.lemmas.Grind.{common_steps, flat_map-append}
pub use Rattle.std.proofs.lemmas.List.{append-nil, flat_map_more, length-append, map-append}
pub use Rattle.std.proofs.lemmas.List.FromFn.{map-range_with_len_more}
pub use Rattle.std.proofs.lemmas.List.Sums.{sum_by-append}
pub use Rattle.std.specs.Io.{StartsWith}
pub use Rattle.std.specs.List.{flat_map, range_with_len, sum_by}
pub use Rattle.std.specs.Prelude.{codes, ok_or, string_bytes}
pub use Rattle.wi_csv.proofs.Copied.{one_more}
pub use Rattle.wi_csv.proofs.Growth.{starts_after, starts_itself, starts_same}
pub use Rattle.wi_csv.specs.Row.{row}
pub use Rattle.wi_fraction.proofs.Decimals.{starts_joined, starts_pushed}
pub use Rattle.wi_fraction.specs.Arithmetic.{negated, sum_of}
pub use Rattle.wi_fraction.specs.Number.{Number}
pub use Rattle.wi_fraction.specs.Text.{text_of}
pub use Rattle.wi_fraction.specs.declared.FractionError.{FractionError}
pub use Rattle.wi_fraction.specs.declared.FractionError.TheVariants.{Overflow}
pub use Rattle.wi_parser.specs.Sheet.{Sheet}
pub use Rattle.wi_parser.specs.declared.content.Content.TheVariants.{Constant}
pub use Rattle.wi_reports.specs.Changes.{change_records}
pub use Rattle.wi_reports.specs.Contents.{content_text}
pub use Rattle.wi_reports.specs.Inner.Parts.{cell_compared, number_text, pairs_at, row_shown, table_row}
pub use Rattle.wi_reports.specs.Looks.{Costs, beside_cases, both_cases, cells_cases, entries_cases, head_cases, rows_cases}
pub use Rattle.wi_reports.specs.Rows.{text_under}
pub use Rattle.wi_reports.specs.Table.{entries_beside, entry_text}
pub use Rattle.wi_sessions.specs.Pictures.{same_value, value_in}
pub use Rattle.wi_sessions.specs.Pictures.Laws.{changes_among}
pub use Rattle.wi_sheet.specs.Demand.{Case, demanded, wants}
pub use Rattle.wi_sheet.specs.Shown.{shown}
pub use Rattle.wi_sheet.specs.TableEntry.{entry_demanded}
pub use Rattle.wi_store.specs.Store.{Stored}
pub use Rattle.wi_values.proofs.Lists.{left_more}
pub use Rattle.wi_values.proofs.Outcomes.{on_err}
pub use Rattle.wi_values.specs.Address.{Area, cells_of, cells_of_row, column_of, is_column, is_row, place, row_of, rows_in}
unfoldable pub use Rattle.wi_values.specs.Value.{shown_text}
pub use Rattle.wi_values.specs.declared.replacement.Replacement.{Replacement}
pub use Rattle.wi_values.specs.declared.value.ErrorKind.TheVariants.{BadNumber}
pub use Rattle.wi_values.specs.declared.value.Value.{Value}
pub use Rattle.wi_values.specs.declared.value.Value.TheVariants.{Fault, Text}
