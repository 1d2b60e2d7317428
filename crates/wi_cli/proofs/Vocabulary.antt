-- The words of the library, of the crates below and of this crate's definitions that its proofs are written in.
pub use Rattle.memchr.specs.Find.{NoneBefore, Nowhere, Passes, is_byte}
pub use Rattle.std.proofs.Common.{Bool, Err, IfErr, IfOk, List, None, Ok, OnOk, Option, Result, Some, [], ap, append-nil, append_assoc, ap₂, arith, bytes_eq, codes, cond, drop, eqb, false, filter, filter_map, get_or, if◌then◌else◌, inl, inr, length, length-append, ltb, max, min, nat_eq, nat_le, nat_lt, not, ok_or, option_map, refl, rules, subst, subst₂, suc, sym, take, tests, true, vec_capacity, zero, ℕ, ⊎_elim, ◌%◌, ◌&&◌, ◌*◌, ◌++◌, ◌+◌, ◌-◌, ◌/◌, ◌<◌, ◌==◌, ◌||◌, ◌∙◌, ◌∷◌, ◌≡◌, ◌≤◌, ◌⊎◌, map}
pub use Rattle.std.proofs.KnownBytes.{Appends-kept, Appends-nil, Appends-trans, Consumes-nil, Consumes-trans}
pub use Rattle.std.proofs.Math.Bool.{or-false, or-true}
pub use Rattle.std.proofs.Math.Seq.{drop-append_seam, take-add, take-append-add, take-append_seam}
pub use Rattle.std.proofs.lemmas.Bool.{and_from, and_parts, both_ways, cases_lt, cond_both, eqb-true, false_from_ne_true, false≢true, le-leb, le-ltb, leb-true, lt-ltb, ltb-false, ltb-true, ne_eqb, not-false, or_cases, or_parts, true_from_ne_false}
pub use Rattle.std.proofs.lemmas.Bool.Decides.{nat_tests}
pub use Rattle.std.proofs.lemmas.List.{at_drop_all, at_drop_more, drop_all, drop_more, get_or-take, length-drop, length-take, nil_from_length, take-append-drop, take-append-le, take_all, take_at, take_min, take_rest}
pub use Rattle.std.proofs.lemmas.List.Elements.{All-weaker, filter-append, filter_map-append}
pub use Rattle.std.proofs.lemmas.List.Folds.{concat-append, length-prefix_len, list_all-append, list_any-append}
pub use Rattle.std.proofs.lemmas.List.Sums.{passes_at_first, split_at_first}
pub use Rattle.std.proofs.lemmas.Option.{none-some, same_Some}
pub use Rattle.std.proofs.lemmas.Result.{err_from_is_err_and, on_err_weaker, on_ok_weaker}
pub use Rattle.std.proofs.lemmas.Slice.Eq.{bytes_eq-Decides}
pub use Rattle.std.proofs.lemmas.Str.{IsCharBoundary-before_ascii, IsCharBoundary-end, IsUtf8-from_is_utf8, encode_ascii, is_utf8-from_IsUtf8}
pub use Rattle.std.proofs.lemmas.Str.Pattern.{drop_at_char, strip_prefix_char}
pub use Rattle.std.specs.Char.{digit_value, is_ascii_alphabetic, is_ascii_digit}
pub use Rattle.std.specs.Cmp.Lexicographic.{pointwise}
pub use Rattle.std.specs.Io.KnownBytes.{Appends, Consumes, IsAtEnd, Keeps, prepend_known}
pub use Rattle.std.specs.List.{Contains, after_first, before_first, concat, cons_option, list_all, list_any, position, position_or_len, prefix_len}
pub use Rattle.std.specs.Option.{IfSome, option_to_list}
pub use Rattle.std.specs.Str.{IsCharBoundary, IsUtf8, all_ascii_digits, byte, is_utf8}
pub use Rattle.std.specs.Str.Parse.{digits_value, digits_value_after}
pub use Rattle.std.specs.Str.Pattern.{CutsPrefixes, FindsCharPrefix, IsTrimStartMatches}
pub use Rattle.wi_cli.specs.Events.{AreEvents}
pub use Rattle.wi_cli.specs.InTurn.{RunInTurn}
pub use Rattle.wi_cli.specs.Inner.Reading.{Takes, budget, Advances, BrokeNext, IsOver, Place, Stage, TookNext, place_of, stage_of, Broke, CanRead, HasStopped, ReadsOn, TookLine, TookPart, raw}
pub use Rattle.wi_cli.specs.Inner.Data.{IsAsked, AddedTo, BrokeData, HoldsLines, IsCsv, IsTarget, TookData, command_of_csv, target_of, wants}
pub use Rattle.wi_cli.specs.Inner.Script.{Block, begun, blocks, blocks_from, is_complete, lines_of, with_data, CsvLine, csv_by_name, csv_named, csv_of, csv_operands, csv_text, is_long, read_lines, block_command, command_with, is_comment, text_command, asked}
unfoldable pub use Rattle.wi_cli.specs.Inner.Script.{csv_line, line_command}
pub use Rattle.wi_cli.specs.Inner.Forms.{AND, A_CELL, A_NAME, A_RECT, A_SESSION, A_SIDE, END, Kind, MAYBE, TEXT, Value, Values, Verb, Words, edits, form_of, made, named_command, named_in, read_word, read_words, verbs}
unfoldable pub use Rattle.wi_cli.specs.Inner.Forms.{spelled, spelled_command}
pub use Rattle.wi_cli.specs.Inner.Turn.{AppendsFront, AreBlocks, AreBlocksOf, AreWhole, BrokeLines, TookLines, BrokeBlock, IsReplied, IsTurn, Served, Stopped, TookBlock}
pub use Rattle.wi_cli.specs.Inner.Operands.{Reading, at_end, both, is_all_spaces, line_fault, name_or_none, of_name, of_operand, only_name, read_any, read_any_area, read_by, read_side, spelled_corners, unless_refused, worse, IsReadAs, IsReading, command_of, placed, fill_of, table_behind, table_of_one, table_of_two}
unfoldable pub use Rattle.wi_cli.specs.Inner.Operands.{spelled_cell, spelled_rect, IsRead}
unfoldable pub use Rattle.wi_cli.specs.Inner.Reading.{line_front}
pub use Rattle.wi_cli.specs.Inner.Told.{reply, refused_cell, IsServed, KeepsMemory, RefusedAs, Told, reply_bytes}
unfoldable pub use Rattle.wi_cli.specs.Inner.Told.{refused}
pub use Rattle.wi_cli.specs.Words.{AddressFault, All, DataLines, Done, Held, Lacking, Line, Passed, Refusal, Refused, Reply, RunFault, Shape, has_session, is_name, is_ok, read_name, result_err}
pub use Rattle.wi_cli.specs.Laws.{SameAddr, SameRect, Splits, a_line, blocks_that_count, commands_of, cut_short, line_block, none}
pub use Rattle.wi_cli.specs.Lines.{Bytes, after_word, first_word, is_space, is_whole, max_line, onto_first, raw_lines, skip_spaces, without_cr, without_lf}
pub use Rattle.wi_cli.specs.Outcome.{IsRun, Outcome, Writes}
pub use Rattle.wi_cli.specs.Reply.{MayLackMemory, Replies, accepted, cell_named, late, unserved}
pub use Rattle.wi_cli.specs.Script.{AreCommands, Asks, IsCommand, IsGood, IsWithin, is_passed_over, line_text}
pub use Rattle.wi_cli.specs.Spelled.{IsAddr, IsRect, IsSpelled, IsWritten, a_cell, addr, two_cells}
pub use Rattle.wi_cli.specs.declared.command.Command.{Command as ReadCommand}
pub use Rattle.wi_cli.specs.declared.csv_line.CsvLine.{CsvLine as ReadCsv}
pub use Rattle.wi_cli.specs.declared.fault.RunFault.TheVariants.{Memory, Read, ScriptLimit, Write}
pub use Rattle.wi_propagate.specs.KeptSheet.{KeptSheet}
pub use Rattle.wi_reports.specs.Inner.Shape.{has_row, entries}
pub use Rattle.wi_scenario_list.specs.Bases.{lacks}
pub use Rattle.wi_scenarios.proofs.CauseTests.{first_holds, one_first, is_misshaped}
pub use Rattle.wi_scenarios.proofs.ClearSteps.{clear_outside, clear_step, cleared, clear_of}
pub use Rattle.wi_scenarios.proofs.CsvSteps.{csv_outside, long_lines, no_long_line}
pub use Rattle.wi_scenarios.proofs.EditLemmas.{outside_first}
pub use Rattle.wi_scenarios.proofs.FillSteps.{fill_outside, fill_out, fill_edit, leaves, filled_by, fill_step}
pub use Rattle.wi_scenarios.proofs.LookSteps.{show_step, export_step, compare_step, area_answer, shown_in, show_of, exported_in, export_of_area, compared_in, compare_of, addresses, table_step, table_by}
pub use Rattle.wi_scenarios.proofs.OperandLemmas.{once, placed_again, spanned_again}
pub use Rattle.wi_scenarios.proofs.SetSteps.{set_none, set_outside}
pub use Rattle.wi_scenarios.proofs.StepLemmas.{no_other}
pub use Rattle.wi_scenarios.specs.Answer.{Answer, MayGrow, MayRefuse, may_grow, code_of}
pub use Rattle.wi_scenarios.specs.Commands.Causes.{BadCommand, BadField, BadLine, Cause, CutShort, EditLimit, Full, Holds, IsFirst, LeavesSheet, NumberRange, OutOfSheet, Outside, Stale, Syntax, TooDeep, cells_asked, lies_outside, order, stale_cell}
pub use Rattle.wi_scenarios.specs.Commands.Command.{Command, Csv, Unknown, Unreadable, form, may_force}
pub use Rattle.wi_scenarios.specs.Commands.Operands.{ADDR, ANY, CONTENT, Cell, CornerCells, LINES, NAME, Operand, RECT, SESSION, SIDE, WORD, address, area, cell, is_outside, second_input}
pub use Rattle.wi_scenarios.specs.Commands.Step.{IsFirstOf, IsImportStep, IsStep, Tells, causes}
pub use Rattle.wi_scenarios.specs.Events.{MayHappen, left_by}
pub use Rattle.wi_scenarios.specs.Inner.Calls.{IsTablePlaced}
pub use Rattle.wi_scenarios.specs.Pending.{Book}
pub use Rattle.wi_scenarios.specs.State.{State, max_area, new_state, state_over}
pub use Rattle.wi_store.specs.Store.{Stored}
pub use Rattle.wi_store.specs.declared.limits.Limits.{Limits}
pub use Rattle.wi_values.proofs.Letters.{letters_of_column}
pub use Rattle.wi_values.proofs.Lists.{each_fails}
pub use Rattle.wi_values.proofs.ReadsBack.{no_letters, scan}
pub use Rattle.wi_values.proofs.Spelling.{digits_step, letters_above_zero}
pub use Rattle.wi_values.proofs.Within.{column_of_place, row_of_place}
pub use Rattle.wi_values.specs.Address.{Area, column_of, columns, is_column, is_row, is_row_number, letters_value, place, rect_of, row_of, rows, size_of}
unfoldable pub use Rattle.wi_values.specs.Address.{address_text, letters_within}
pub use Rattle.wi_values.specs.AddressReading.{cell_at, corners}
unfoldable pub use Rattle.wi_values.specs.AddressReading.{address_at, read_address, read_rect}
