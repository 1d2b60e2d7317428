-- What these definitions are written in: words of the library and of the crates below, of lines, and of types of the code.
pub use Rattle.std.specs.Char.{is_ascii_alphabetic}
pub use Rattle.std.specs.Io.KnownBytes.{Appends, Consumes, IsAtEnd, prepend_known}
pub use Rattle.std.specs.List.{Contains, concat, flat_map, list_all, list_any, position, prefix_len}
pub use Rattle.std.specs.Prelude.{Bool, Err, IsTrue, List, MatchResult, None, Ok, OnOk, Option, Result, Some, [], codes, drop, false, filter, filter_map, is_ok, length, map, nat_le, nat_lt, not, option_map, option_to_list, take, true, ℕ}
pub use Rattle.std.specs.Result.{result_err}
pub use Rattle.std.specs.Str.{IsUtf8, all_ascii_digits, byte, bytes_eq, is_utf8}
pub use Rattle.std.specs.Str.Parse.{digits_value}
pub use Rattle.wi_cli.specs.Lines.{Bytes, after_word, first_word, is_space, is_whole, max_line, max_lines, raw_lines, without_cr, without_lf}
pub use Rattle.wi_cli.specs.declared.data_lines.DataLines.{DataLines}
pub use Rattle.wi_cli.specs.declared.data_lines.Held.{Held}
pub use Rattle.wi_cli.specs.declared.data_lines.Held.TheVariants.{All, Lacking, TooLong}
pub use Rattle.wi_cli.specs.declared.fault.RunFault.{RunFault}
pub use Rattle.wi_cli.specs.declared.fault.RunFault.TheVariants.{Read, ScriptLimit, Write}
pub use Rattle.wi_cli.specs.declared.line.Line.{Line}
pub use Rattle.wi_cli.specs.declared.lines.LineReader.{LineReader}
pub use Rattle.wi_cli.specs.declared.reply.Reply.{Reply}
pub use Rattle.wi_cli.specs.declared.reply.Reply.TheVariants.{Done, Passed, Refused}
pub use Rattle.wi_scenarios.specs.Answer.{Answer, Serves, code_of, operand_refusal}
pub use Rattle.wi_scenarios.specs.Commands.Causes.{lies_outside}
pub use Rattle.wi_scenarios.specs.Commands.Command.{Command, Csv, Unknown, Unreadable, data_of, form}
pub use Rattle.wi_scenarios.specs.Commands.Operands.{ADDR, ANY, CONTENT, Cell, CornerCells, LINES, NAME, Operand, RECT, SESSION, SIDE, WORD, address, area, cell, corners, is_outside}
pub use Rattle.wi_scenarios.specs.Commands.Step.{IsImportStep, IsStep}
pub use Rattle.wi_scenarios.specs.State.{State}
pub use Rattle.wi_scenarios.specs.declared.refusal.Refusal.{Refusal}
pub use Rattle.wi_scenarios.specs.declared.refusal.Refusal.TheVariants.{BadCommand, CutShort, Memory, OutOfSheet, Stale}
pub use Rattle.wi_sessions.specs.Sessions.{has_session}
pub use Rattle.wi_values.specs.Address.{Area, address_text, is_column, is_row, is_row_number, letters_value}
pub use Rattle.wi_values.specs.AddressReading.{read_address, read_rect}
pub use Rattle.wi_values.specs.Name.{bytes_of, is_name, read_name}
pub use Rattle.wi_values.specs.declared.address.AddressFault.{AddressFault}
pub use Rattle.wi_values.specs.declared.address.AddressFault.TheVariants.{Outside, Shape}
