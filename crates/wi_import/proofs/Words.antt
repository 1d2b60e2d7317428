-- The words of the library, of the crates below and of this crate's definitions that its proofs are written in.
pub use Rattle.std.proofs.Common.{All, Bool, Err, IsOk, IsUtf8, List, MatchResult, None, Ok, Option, Result, Some, Vec, [], ap, arith, codes, drop, false, get_or, if◌then◌else◌, is_err, is_ok, is_some, length, map, max, min, nat_le, nat_lt, not, option_map, refl, rules, subst, suc, sym, true, zero, ℕ, ◌++◌, ◌+◌, ◌-◌, ◌<◌, ◌==◌, ◌||◌, ◌↔◌, ◌∙◌, ◌∷◌, ◌≡◌, ◌≢◌, ◌≤◌}
pub use Rattle.std.proofs.Math.Bool.{or-false}
pub use Rattle.std.proofs.lemmas.Bool.{not-false, or_parts}
pub use Rattle.std.proofs.lemmas.Bool.Decides.{nat_tests}
pub use Rattle.std.proofs.lemmas.Grind.{common_steps}
pub use Rattle.std.proofs.lemmas.List.{append-nil, append_assoc, at_drop_more, drop_all, length-map, map-append}
pub use Rattle.std.proofs.lemmas.List.Folds.{Any-from_list_any, list_any-append, list_any-from_Any, list_any_none}
pub use Rattle.std.proofs.lemmas.Nat.{div-mul-add, mod-mul-add}
pub use Rattle.std.proofs.lemmas.Result.{IfOk-from_err}
pub use Rattle.std.proofs.lemmas.Slice.Eq.{bytes_eq-Decides}
pub use Rattle.std.proofs.lemmas.Str.{IsUtf8-from_is_utf8, is_utf8-from_IsUtf8}
pub use Rattle.std.specs.List.{AllZip, list_any}
pub use Rattle.std.specs.Prelude.{IfErr}
pub use Rattle.std.specs.Result.{IsErrAnd}
pub use Rattle.std.specs.Str.{bytes_eq, is_utf8}
pub use Rattle.std.specs.declared.alloc.Global.{Global}
pub use Rattle.wi_fraction.specs.Inner.Reading.{read}
pub use Rattle.wi_fraction.specs.Number.{Number}
pub use Rattle.wi_import.specs.Fields.{Field, IsInside, areas_from, fields_at, fields_from, fields_of}
pub use Rattle.wi_import.specs.Imports.{AreChanges, IsChange, IsFault, IsFieldContent, IsImport, bad_field, out_of_sheet, too_long}
pub use Rattle.wi_import.specs.Inner.Reading.{IsText, change_of, content_for, content_of, fault_among, field_cell, first_fault, import_of, is_bad, is_outside, is_too_long, unless_fault}
pub use Rattle.wi_import.specs.Inner.Records.{all_bytes, area_of_record, bytes_of, is_faulty}
pub use Rattle.wi_import.specs.declared.fault.ImportFault.{ImportFault}
pub use Rattle.wi_import.specs.declared.fault.ImportFault.TheVariants.{Memory}
pub use Rattle.wi_parser.specs.Sheet.{constant}
pub use Rattle.wi_parser.specs.declared.content.Content.{Content}
pub use Rattle.wi_parser.specs.declared.content.Content.TheVariants.{Constant}
pub use Rattle.wi_values.proofs.Imports.{imported_exactly}
pub use Rattle.wi_values.proofs.Lists.{Any-weaker, each_fails}
pub use Rattle.wi_values.specs.Address.{Area, column_of, columns, place, rect_of, row_of, rows}
pub use Rattle.wi_values.specs.Import.{max_text}
pub use Rattle.wi_values.specs.Imported.{IsImported, a_number, a_text, a_truth_value}
pub use Rattle.wi_values.specs.Inner.Import.{field_value, number_or, words_value}
unfoldable pub use Rattle.wi_values.specs.Inner.Import.{imported}
pub use Rattle.wi_values.specs.declared.value.Value.{Value}
pub use Rattle.wi_values.specs.declared.value.Value.TheVariants.{Empty, Logical, Text}
