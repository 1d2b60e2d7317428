-- The words of the library, of the crates below and of this crate's definitions that its proofs are written in.
pub use Rattle.std.proofs.Common.{Bool, Err, List, None, Ok, Option, Result, Some, [], ap, append_assoc, ap₂, arith, cond, drop, false, get_or, if◌then◌else◌, inl, inr, length, map, max, min, not, refl, rules, set, subst, suc, sym, true, zero, ℕ, ⊎_elim, ◌%◌, ◌&&◌, ◌*◌, ◌++◌, ◌+◌, ◌-◌, ◌/◌, ◌<◌, ◌==◌, ◌||◌, ◌↔◌, ◌∙◌, ◌∷◌, ◌≡◌, ◌≢◌, ◌≤◌, ◌⊎◌}
pub use Rattle.std.proofs.Math.Bool.{or-false, or-true}
pub use Rattle.std.proofs.Math.Nat.{div-lt_iff_lt-mul, mod-lt}
pub use Rattle.std.proofs.Math.Seq.{get_or-append_seam}
pub use Rattle.std.proofs.lemmas.Bool.{and_from, and_parts, both_ways, cases_Bool, cases_eq, cases_lt, cond_both, eqb-false, eqb-true, false_from_ne_true, false≢true, le-leb, leb-true, lt-ltb, ltb-true, ne_eqb, not-false, or_cases, or_from, or_left, or_parts, or_right}
pub use Rattle.std.proofs.lemmas.Bool.Decides.{nat_tests}
pub use Rattle.std.proofs.lemmas.Grind.{common_steps}
pub use Rattle.std.proofs.lemmas.List.{append-nil, drop-append-le, drop_all, get_or-set_other, get_or-set_same, get_or_append_left, length-append, length-set, map-append, nil_from_length}
pub use Rattle.std.proofs.lemmas.List.Elements.{All-map}
pub use Rattle.std.proofs.lemmas.List.Folds.{Any-from_list_any, flat_map-map, list_any-append, list_any-from_Any, list_any_at}
pub use Rattle.std.proofs.lemmas.List.FromFn.{map-range_with_len_more}
pub use Rattle.std.proofs.lemmas.Map.Entries.{length-keys_of}
pub use Rattle.std.proofs.lemmas.Map.Views.{any-filter_same}
pub use Rattle.std.proofs.lemmas.Option.{none-some, same_Some}
pub use Rattle.std.proofs.lemmas.Result.{IfOk-weaker, err_from_is_err_and, on_ok_weaker}
pub use Rattle.std.proofs.lemmas.Slice.Eq.{bytes_eq-Decides}
pub use Rattle.std.specs.List.{AllByRecursion, find, flat_map, list_all, position_or_len, range_with_len}
pub use Rattle.std.specs.Option.{option_copied}
pub use Rattle.std.specs.Prelude.{IfOk, IsErrOf, MatchResult, nat_lt, take}
pub use Rattle.std.specs.Result.{IsErrAnd}
pub use Rattle.std.specs.Str.{bytes_eq}
pub use Rattle.std.specs.declared.alloc.AllocError.{AllocError}
pub use Rattle.wi_csv.proofs.ReadAgain.{read_again}
pub use Rattle.wi_csv.specs.Row.{row}
pub use Rattle.wi_edit_log.proofs.First.{only_first}
pub use Rattle.wi_edit_log.proofs.Least.{stale_is_first}
pub use Rattle.wi_edit_log.specs.Inner.Edits.{entries_in, is_wanted_of_others}
pub use Rattle.wi_edit_log.specs.Inner.First.{IsFirst}
pub use Rattle.wi_import.proofs.ImportLemmas.{no_other, one_list, some_import}
pub use Rattle.wi_import.specs.Fields.{record_areas_at}
pub use Rattle.wi_import.specs.Imports.{AreChanges, IsChange, IsFault, bad_field, out_of_sheet, too_long}
pub use Rattle.wi_import.specs.Inner.Reading.{field_cell}
pub use Rattle.wi_import.specs.declared.fault.ImportFault.{ImportFault}
pub use Rattle.wi_parser.proofs.ContentsOfTexts.{content_is_one, is_fault, one_content}
pub use Rattle.wi_parser.specs.Inner.Answered.{HasFault, IsAnsweredAs, IsFirstFault, faults}
pub use Rattle.wi_parser.specs.Inner.Reading.{ReadsAs, content_read, is_too_long}
pub use Rattle.wi_parser.specs.Reads.{cell_area}
pub use Rattle.wi_parser.specs.Sheet.{has_formula}
pub use Rattle.wi_parser.specs.Shift.{ShiftsTo, shifted}
pub use Rattle.wi_parser.specs.Tree.{Tree}
pub use Rattle.wi_parser.specs.declared.fault.ParseFault.{ParseFault}
pub use Rattle.wi_propagate.proofs.Editing.{accepted_is, same_off_edited}
pub use Rattle.wi_propagate.proofs.EmptyCells.{has_none, shows_nothing}
pub use Rattle.wi_reports.proofs.CostLemmas.{asked_same, nothing_asked}
pub use Rattle.wi_reports.proofs.RowLemmas.{cells_in, one_row, row_is, rows_are, rows_from}
pub use Rattle.wi_reports.specs.Compare.{cells_compared}
pub use Rattle.wi_reports.specs.Contents.{content_record}
pub use Rattle.wi_reports.specs.Inner.Shape.{entries, has_row}
pub use Rattle.wi_reports.specs.Rows.{export_of, rows_shown}
pub use Rattle.wi_reports.specs.Table.{table_of}
pub use Rattle.wi_scenario_list.proofs.ChainsKept.{based_kept, dropped_kept, has_space, is_chain, no_scenarios, own_kept}
pub use Rattle.wi_scenario_list.proofs.Named.{found_with, found_without, not_based, scenario_without}
pub use Rattle.wi_scenario_list.specs.Bases.{HasChains, based_on, is_base, is_name_of, lacks, would_loop}
unfoldable pub use Rattle.wi_scenario_list.specs.Scenarios.{chain}
pub use Rattle.wi_scenario_list.specs.Inner.Parts.{scenario_or_new}
pub use Rattle.wi_scenario_list.specs.Scenarios.{Scenario as Kept, chain_within, is_named, max_scenarios}
pub use Rattle.wi_scenarios.specs.Answer.{Answer, MayGrow, MayRefuse, MayRefuseData, Serves, ServesData, field_refusal, import_refusal, may_grow, parse_refusal, shift_refusal}
pub use Rattle.wi_scenarios.specs.Commands.Causes.{BadCommand, BadField, BadLine, Cause, CutShort, EditLimit, Full, Holds, InUse, LeavesSheet, Loop, NoScenario, NumberRange, OutOfSheet, Outside, Stale, Syntax, TooDeep, TooLarge, TooLong, TooMany, is_bent, is_missing, lies_outside, cells_asked, stale_cell}
pub use Rattle.wi_scenarios.specs.Commands.Command.{As, Base, Changes, Clear, Command, Compare, Csv, Drop, Export, Fill, Formula, Scenario, Set, Show, Table, Unknown, Unreadable, Use, form, may_force}
pub use Rattle.wi_scenarios.specs.Commands.Does.{Does, state_with}
pub use Rattle.wi_scenarios.specs.Commands.Operands.{Cell, CornerCells, Operand, WORD, address, area, cell, corners, is_outside, second_input, max_line, without_lf}
pub use Rattle.wi_scenarios.specs.Commands.Step.{IsFirstOf, IsImportStep, IsStep, Tells, causes}
pub use Rattle.wi_scenarios.specs.Events.{Event, ForcedIsNotStale, IsCoherent, IsFirstNewer, KeepsApart, ListsAddUp, LogGrows, MayFollow, MayHappen, RecordsTellList, StaleIsNewer, StaysCoherent, change_fields, counts_before, edits_in, edits_since, is_accepted_changes, is_newer, is_refused_before, is_told, last_shown, left_by, lists_told, logged, logged_by, state_after, unseen, with_lists}
pub use Rattle.wi_scenarios.specs.Inner.Editing.{copy_to, AreCopies, CopiesAs, HasNoCopies, has_no_copy, or_nothing, AreMarked, Commits, Edit, HasRooms, IsTold, MayFail, SameBeside, answer_by, edit_answer, limit_of, stale_in}
pub use Rattle.wi_scenarios.specs.Inner.Calls.{Edits, IsDrop, IsMade, Looks, ServesInto, IsSpanned, IsPlaced, IsTablePlaced}
pub use Rattle.wi_scenarios.specs.Inner.Sound.{AreClosed, AreCovered, IsClosed, IsSound, IsUpToDate, MakesSound, ServesSound, book_by, book_of, pending_in, state_of}
pub use Rattle.wi_scenarios.specs.Inner.Switch.{AreDiffering, Differs, HasRoom, HasRoomFor, differing, same_option}
pub use Rattle.wi_scenarios.specs.Commands.Edits.{Put, Puts, after_edit, copied, copy_in, fields, is_forced, named, sheet_with}
pub use Rattle.wi_scenarios.specs.Laws.{GivesChain, HasScenarioChanged, IsEdited, KeepsChains, Leaves, is_changes, named_by}
pub use Rattle.wi_scenarios.specs.Pending.{AddsOnly, Book, IsMarked, IsTouched, SameForOthers, is_pending, counts, imported_cells, occupied_cells, occupied_in}
pub use Rattle.wi_scenarios.specs.State.{state_over}
pub use Rattle.wi_scenarios.specs.Words.{All, AllZip, Any, Area, Case, Content, Costs, Entry, Field, IsContent, IsImported, IsInside, IsUtf8, Refusal, Sheet, ShiftFault, State, StoreFault, Stored, Value, ℤ, address_text, applied, cells_cases, cells_of, change_list, change_records, codes, column_of, columns, comparison_cases, content_of, current_replacements, current_session, edited, effective, fields_at, filter, first_stale, has_scenario, has_session, index_of, is_full, is_one_of, is_some, is_within, is_within_one, keys_of, kind_text, layered, list_any, max_area, max_sessions, nat_le, option_map, place, recs, rect_of, replaced, row_of, rows, rows_cases, same_value, scenario_for, scenario_of, shown, shown_to, size_of, slice_index_or, slice_set, table_cases, told, using_scenario, value_in, with_changes, with_current, with_own, with_scenario, with_session, without_own, without_scenario}
pub use Rattle.wi_scenarios.specs.declared.desk.Desk.{Desk}
pub use Rattle.wi_scenarios.specs.declared.refusal.Refusal.TheVariants.{Memory}
pub use Rattle.wi_sessions.proofs.ChangeLists.{any_cells, picture_is_shown}
pub use Rattle.wi_sessions.proofs.RosterLemmas.{all_have_so, one_of_all_has}
unfoldable pub use Rattle.wi_sessions.specs.Pictures.{sheet_size}
pub use Rattle.wi_sessions.specs.Pictures.Laws.{Rises, changes_among}
pub use Rattle.wi_sessions.specs.Roster.{Roster, SameCells, is_pending_for_all, pending_of, session_at, vacant_of}
pub use Rattle.wi_sessions.specs.Sessions.{Session, new_session}
pub use Rattle.wi_sheet.proofs.Cones.{outside_unmoved}
pub use Rattle.wi_sheet.proofs.Overrides.{last_in_order}
pub use Rattle.wi_sheet.specs.Unmoved.{IsMarking}
pub use Rattle.wi_store.specs.Store.{change_without_empty}
unfoldable pub use Rattle.wi_store.specs.Store.{accepted}
pub use Rattle.wi_values.proofs.Equal.{same_replacement_Decides}
pub use Rattle.wi_values.proofs.Fields.{numbers_read_back}
pub use Rattle.wi_values.proofs.Imports.{imported_exactly}
pub use Rattle.wi_values.proofs.Listed.{has-filter, has_at}
pub use Rattle.wi_values.proofs.Lists.{Any-weaker, each_fails, left_more}
pub use Rattle.wi_values.proofs.Outcomes.{on_err}
pub use Rattle.wi_values.proofs.ReadsBack.{addresses_read_back}
pub use Rattle.wi_values.proofs.Small.{any_in_range}
pub use Rattle.wi_values.proofs.Within.{within_between}
pub use Rattle.wi_values.specs.Address.{cells_of_row, height, is_column, width}
pub use Rattle.wi_values.specs.AddressReading.{read_address}
pub use Rattle.wi_values.specs.Inner.Import.{imported}
pub use Rattle.wi_values.specs.Replacements.{IsInOrder}
pub use Rattle.wi_values.specs.Value.{error_name, logical_name}
unfoldable pub use Rattle.wi_values.specs.Value.{shown_text}
pub use Rattle.wi_values.specs.declared.address.AddressFault.{AddressFault}
pub use Rattle.wi_values.specs.declared.import.FieldFault.{FieldFault}
pub use Rattle.wi_values.specs.declared.replacement.Replacement.{Replacement}
pub use Rattle.wi_values.specs.declared.value.ErrorKind.{ErrorKind}
pub use Rattle.wi_values.specs.declared.value.ErrorKind.TheVariants.{BadNumber, BadReference, BadValue, Circular, DivisionByZero, NotAvailable, UnknownName}
pub use Rattle.wi_values.specs.declared.value.Value.TheVariants.{Empty, Fault, Logical, Number, Text}
pub use Rattle.std.proofs.lemmas.List.Sums.{position_or_len_is, prefix_len-le-length}
