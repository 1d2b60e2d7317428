-- The words of the library, of the crates below and of this crate's definitions that its proofs are written in.
pub use Rattle.std.proofs.Common.{Bool, FitsSigned, IfOk, List, Option, [], ap, arith, chars, cond, drop, false, get_or, if◌then◌else◌, inl, inr, length, length-append, refl, rules, slice_get, subst, suc, sym, take, true, zero, ℕ, ⊎_elim, ◌&&◌, ◌*◌, ◌++◌, ◌+◌, ◌-◌, ◌/◌, ◌<◌, ◌∙◌, ◌∷◌, ◌≡◌, ◌≤◌}
pub use Rattle.std.proofs.Math.Nat.{mul-le-mul_right, sub-add-min_cancel}
pub use Rattle.std.proofs.Math.Seq.{drop-append_seam, drop-drop, take-append_seam}
pub use Rattle.std.proofs.Math.Bool.{and-true}
pub use Rattle.std.proofs.lemmas.Bool.{and_parts, cases_lt, cases_order, false_from_ne_true, le-leb, lt-leb}
pub use Rattle.std.proofs.lemmas.Bool.Decides.{nat_tests}
pub use Rattle.std.proofs.lemmas.Cmp.{nat_list_cmp_total, ranked, tied_itself}
pub use Rattle.std.proofs.lemmas.Int.{to_z-of_z}
pub use Rattle.std.proofs.lemmas.List.{append-nil, append_assoc, append_cancel_right, drop_all, drop_more, get_or-map, length-drop, length-map, length-take, take-append-drop, take-append-le}
pub use Rattle.std.proofs.lemmas.Map.Keys.{Less-from_sorted, sorted_tail}
pub use Rattle.std.proofs.lemmas.Map.Lookups.{exact_bytes}
pub use Rattle.std.proofs.lemmas.Map.Text.{is_eq-slice_cmp}
pub use Rattle.std.proofs.lemmas.Result.{err_from_is_err_and}
pub use Rattle.std.proofs.lemmas.Slice.Eq.{bytes_eq-Decides}
pub use Rattle.std.proofs.lemmas.Str.{IsCharBoundary-at_seam, IsUtf8-past_char, IsUtf8-take, chars-append, chars-nil, chars_from_encodes, chars_past_char, encodes-append, encodes-chars, length-le-encodes}
pub use Rattle.std.specs.Char.{encode_utf8}
pub use Rattle.std.specs.Cmp.{nat_cmp_is}
pub use Rattle.std.specs.Cmp.Lexicographic.{slice_cmp}
pub use Rattle.std.specs.Int.{w128}
pub use Rattle.std.specs.List.{AllByRecursion, concat, range_with_len, repeat, starts_with}
pub use Rattle.std.specs.List.Sorted.{IsStrictlySortedBy}
pub use Rattle.std.specs.Option.{option_map_or}
pub use Rattle.std.specs.Ordering.{is_eq, is_lt, is_ne, nat_cmp, ordering_reverse, ordering_then}
pub use Rattle.std.specs.Prelude.{Err, MatchOption, None, Ok, Result, Some, encode_utf8_all, find, map, min, nat_eq, nat_le, option_map, pos, string_bytes, unsigned_abs, unwrap_or, ℤ, ◌*ℤ◌, ◌^◌}
pub use Rattle.std.specs.Str.{IsCharBoundary, IsUtf8, bytes_eq}
pub use Rattle.std.specs.Str.Iter.{chars_rest}
pub use Rattle.std.specs.Str.Pattern.{LacksTextAt}
pub use Rattle.std.specs.declared.cmp.Ordering.{Ordering}
pub use Rattle.std.specs.declared.cmp.Ordering.TheVariants.{Equal, Greater, Less}
pub use Rattle.wi_fraction.proofs.NearWholes.{of_parts}
pub use Rattle.wi_fraction.proofs.Numbers.{number_at-too_large, number_of-whole}
pub use Rattle.wi_fraction.proofs.Sizes.{same_nat_cmp}
pub use Rattle.wi_fraction.proofs.Steps.{mul-one-int}
pub use Rattle.wi_fraction.specs.Number.{Number}
unfoldable pub use Rattle.wi_fraction.specs.Number.{number_of}
pub use Rattle.wi_fraction.specs.Rounding.{rounded}
unfoldable pub use Rattle.wi_fraction.specs.Rounding.{round_to}
pub use Rattle.wi_fraction.specs.declared.rounding.Mode.{Mode}
pub use Rattle.wi_fraction.specs.declared.rounding.Mode.TheVariants.{Toward}
pub use Rattle.wi_standard_functions.specs.Arguments.{Argument, value_or}
pub use Rattle.wi_standard_functions.specs.Arithmetic.{fitting, limited_text, whole_number, whole_value}
pub use Rattle.wi_standard_functions.specs.Convert.{to_text, to_whole}
unfoldable pub use Rattle.wi_standard_functions.specs.Functions.{call_value, functions}
pub use Rattle.wi_standard_functions.specs.Information.{value_value}
pub use Rattle.wi_standard_functions.specs.Inner.Named.{concatenated, find_of, first_position, mid_of, of_one, of_three_or, of_two, of_two_or, one_value, power_value, zero_value}
pub use Rattle.wi_standard_functions.specs.Logical.{not_value}
pub use Rattle.wi_standard_functions.specs.Mathematical.{abs_value, mod_value, quotient_value, sign_value}
pub use Rattle.wi_standard_functions.specs.Rounding.{int_value, round_value}
pub use Rattle.wi_standard_functions.specs.Steps.{and_then, map_until_error, ◌>>=◌}
pub use Rattle.wi_standard_functions.specs.Text.{at_least, exact_value, left_value, len_value, of_chars, rept_value, right_value}
pub use Rattle.wi_value_functions.specs.Applied.{applied_to_arguments, applied_to_values, arguments_of, passes}
pub use Rattle.wi_value_functions.specs.NoValues.{Gives}
pub use Rattle.wi_value_functions.specs.Inner.Counts.{IsCut, counted}
pub use Rattle.wi_value_functions.specs.Inner.Gives.{Agrees, EndsWith}
pub use Rattle.wi_value_functions.specs.Inner.Rows.{function_of, given, is_not_above, takes_between}
unfoldable pub use Rattle.wi_value_functions.specs.Inner.Rows.{function_named}
pub use Rattle.wi_value_functions.specs.declared.no_value.NoValue.{NoValue}
pub use Rattle.wi_value_functions.specs.declared.no_value.NoValue.TheVariants.{Error, Stopped}
pub use Rattle.wi_value_functions.specs.declared.function.Function.TheVariants.{Values}
pub use Rattle.wi_value_functions.specs.declared.function.TextFunction.TheVariants.{Concatenate, Exact, Find, Left, Len, Mid, Rept, Right}
pub use Rattle.wi_value_functions.specs.declared.function.ValueFunction.{ValueFunction}
pub use Rattle.wi_value_functions.specs.declared.function.ValueFunction.TheVariants.{Abs, False, Int, Is, Mod, Na, Not, Power, Quotient, Round, Sign, True}
unfoldable pub use Rattle.wi_values.specs.Value.{shown_text}
pub use Rattle.wi_values.specs.declared.value.ErrorKind.{ErrorKind}
pub use Rattle.wi_values.specs.declared.value.ErrorKind.TheVariants.{BadNumber, BadValue, UnknownName}
pub use Rattle.wi_values.specs.declared.value.Value.{Value}
pub use Rattle.wi_values.specs.declared.value.Value.TheVariants.{Empty, Fault, Logical, Text}
pub use mathlib.Core.List.{map-map}
