-- What these definitions are written in: words of the library, of the crates below, and of a state and what is shown.
pub use Rattle.std.specs.List.{All, AllZip, Any, Contains, concat, list_any, slice_index_or, slice_set}
pub use Rattle.std.specs.Map.{keys_of}
pub use Rattle.std.specs.Prelude.{Bool, Err, IfSome, IsTrue, List, None, Ok, OnErr, OnOk, Option, Result, Some, [], codes, drop, false, filter, is_ok, is_some, length, map, nat_le, not, option_map, pos, true, ℕ, ℤ}
pub use Rattle.std.specs.Str.{IsUtf8, byte}
pub use Rattle.wi_csv.specs.Records.{recs}
pub use Rattle.wi_edit_log.specs.EditLog.{Entry, first_stale}
pub use Rattle.wi_fraction.specs.Text.{Bytes}
pub use Rattle.wi_import.specs.Fields.{Field, IsInside, areas_from, fields_at, fields_from}
pub use Rattle.wi_parser.specs.Contents.{HasSymbols, IsContent, IsTooLong}
pub use Rattle.wi_parser.specs.Sheet.{Sheet, content_of}
pub use Rattle.wi_parser.specs.declared.content.Content.{Content}
pub use Rattle.wi_parser.specs.declared.shift.ShiftFault.{ShiftFault}
pub use Rattle.wi_reports.specs.Changes.{change_records, kind_text}
pub use Rattle.wi_reports.specs.Looks.{Costs, cells_cases, comparison_cases, rows_cases, table_cases}
pub use Rattle.wi_scenario_list.specs.Inner.Chains.{effective}
pub use Rattle.wi_scenario_list.specs.Scenarios.{Scenario, chain, has_scenario, is_full, layered, scenario_for, scenario_of, with_own, with_scenario, without_own, without_scenario}
pub use Rattle.wi_scenarios.specs.State.{State, max_area}
pub use Rattle.wi_scenarios.specs.Views.{change_list, current_replacements, current_session, replacements_for, session_at, shown_to, with_current}
pub use Rattle.wi_scenarios.specs.declared.refusal.Refusal.{Refusal}
pub use Rattle.wi_sessions.specs.Pictures.{same_value, sheet_size, value_in, with_changes}
pub use Rattle.wi_sessions.specs.Sessions.{has_session, index_of, max_sessions, told, using_scenario, with_session}
pub use Rattle.wi_sheet.specs.Demand.{Case}
pub use Rattle.wi_sheet.specs.Shown.{shown}
pub use Rattle.wi_store.specs.Store.{Stored, applied, edited, without_empty}
pub use Rattle.wi_store.specs.declared.fault.StoreFault.{StoreFault}
pub use Rattle.wi_values.specs.Address.{Area, address_text, cells_of, column_of, columns, is_one_of, is_within, is_within_one, place, rect_of, row_of, rows, size_of}
pub use Rattle.wi_values.specs.Imported.{IsImported}
pub use Rattle.wi_values.specs.Replacements.{replaced}
pub use Rattle.wi_values.specs.declared.value.Value.{Value}
