-- The words of the library, of the crates below and of this crate's definitions that its proofs are written in.
pub use Rattle.std.proofs.Common.{Bool, Err, FitsSigned, IfSome, List, MatchOption, None, Ok, Option, Some, [], add-zero, add_assoc, ap, arith, cond, drop, false, filter, fold, get_or, inl, inr, length, map, max, min, nat_eq, refl, rules, subst, suc, sym, take, true, zero, zero-add, ℕ, ℤ, ◌&&◌, ◌*◌, ◌++◌, ◌+◌, ◌-◌, ◌<◌, ◌==◌, ◌||◌, ◌∙◌, ◌∷◌, ◌≡◌, ◌≢◌, ◌≤◌, ◌⊎◌}
pub use Rattle.std.proofs.Math.Bool.{and-true}
pub use Rattle.std.proofs.Math.Nat.{div-one, div_self, min-eq_left, min-eq_right, mod-lt, mul-one, suc-mul}
pub use Rattle.std.proofs.lemmas.Bool.{and_from, and_parts, cases_lt, eq-eqb, eqb-true, le-leb, lt-leb, ltb-false, ltb-true, or_cases, or_from, or_left, or_right}
pub use Rattle.std.proofs.lemmas.Bool.Decides.{Decides-eqb, nat_tests}
pub use Rattle.std.proofs.lemmas.Grind.{common_steps}
pub use Rattle.std.proofs.lemmas.Int.{ints, to_z-of_z}
pub use Rattle.std.proofs.lemmas.List.{append-nil, append_assoc, drop_all, drop_more, length-append, length-map, map-append, take_all}
pub use Rattle.std.proofs.lemmas.List.Folds.{list_all-map, list_all_at, list_all_more, list_any_at}
pub use Rattle.std.proofs.lemmas.List.FromFn.{length-map-range_with_len}
pub use Rattle.std.proofs.lemmas.List.Sums.{sum_by-cons}
pub use Rattle.std.proofs.lemmas.Option.{slice_get-map, slice_get_past, slice_get_read}
pub use Rattle.std.proofs.lemmas.Result.{IfOk-from_err, err_from_is_err_and}
pub use Rattle.std.proofs.lemmas.Slice.Eq.{starts_is}
pub use Rattle.std.specs.Borrow.{Bor}
pub use Rattle.std.specs.Int.{w128}
pub use Rattle.std.specs.List.{enumerate_from, last_or, list_all, list_any, position, position_or_len, range_with_len, starts_with}
pub use Rattle.std.specs.Option.{option_copied, option_map, option_map_or}
pub use Rattle.std.specs.Ordering.{int_eq, is_eq, is_ge, is_le, is_ne}
pub use Rattle.std.specs.Prelude.{IfErr, IfOk, IsErrAnd, Result, count_by, if◌then◌else◌, int_lt, nat_lt, negsuc, not, ok_or, pos, slice_get, unsigned_abs, unwrap_or, zip, ◌*ℤ◌, ◌+ℤ◌, ◌/◌, ◌^◌}
pub use Rattle.std.specs.Slice.{IsItemAt}
pub use Rattle.std.specs.Str.Pattern.{FindsTextPrefix, StripsPrefix}
pub use Rattle.std.specs.declared.cmp.Ordering.{Ordering}
pub use Rattle.std.specs.declared.cmp.Ordering.TheVariants.{Equal, Greater, Less}
pub use Rattle.wi_arguments.proofs.Given.{is_referred, known_agrees, known_is, referred_there, refers_alone, region_absent, region_is, region_there, taken_for_known, value_absent, value_given}
pub use Rattle.wi_arguments.proofs.RowMajor.{block, run}
pub use Rattle.wi_arguments.proofs.Walking.{first_of}
pub use Rattle.wi_arguments.specs.Arguments.{IsMissing, IsOfArguments, IsReferred, KnownAgrees, area_at, area_referred, argument_in, arguments_in, refers_to, region_in, value_lent}
pub use Rattle.wi_arguments.specs.Filled.{ComesBefore, IsNextFilled, is_known_empty}
pub use Rattle.wi_arguments.specs.Walk.{IsNextAfter, after_cells}
pub use Rattle.wi_fraction.proofs.Exponents.{zero_of}
pub use Rattle.wi_fraction.proofs.NearWholes.{of_parts}
pub use Rattle.wi_fraction.proofs.Reading.{bounded-small}
pub use Rattle.wi_fraction.proofs.Steps.{mul-one-int, sum_from_steps}
pub use Rattle.wi_fraction.proofs.Values.{mul-none}
pub use Rattle.wi_fraction.specs.Inner.Bounds.{bounded, int_bounded}
pub use Rattle.wi_fraction.specs.Gcd.{gcd}
pub use Rattle.wi_fraction.specs.Gcd.Laws.{gcd-one}
pub use Rattle.wi_fraction.specs.Number.{max_size, number_of}
pub use Rattle.wi_lookup_functions.specs.Inner.Axis.{cell_along, cell_in_line, first_cells, line_count, line_width, lines_in, look_up_by, width_in}
pub use Rattle.wi_lookup_functions.specs.Inner.Finding.{Finds, IsMissingIn, IsPlacedIn, Places, WhateverHeld}
pub use Rattle.wi_lookup_functions.specs.Inner.Giving.{Agrees, Gives, IsCriterionOf, criterion_argument}
pub use Rattle.wi_lookup_functions.specs.Inner.Laws.{empty_meets_none}
pub use Rattle.wi_lookup_functions.specs.Inner.Lines.{is_line, steps}
pub use Rattle.wi_lookup_functions.specs.Inner.Meeting.{IsRestAfter, criterion_held, holds, holds_between_kinds, is_met, relation_of}
pub use Rattle.wi_lookup_functions.specs.Inner.Places.{ComesAfter, IsNextPlace}
pub use Rattle.wi_lookup_functions.specs.Inner.Products.{IsAreaError, IsMissingInAny, areas_of, product_there, sum_over, sum_through, with_factor, with_place}
pub use Rattle.wi_lookup_functions.specs.Inner.Search.{found_after, position_by, rule_in_order, rule_of_match_type}
pub use Rattle.wi_lookup_functions.specs.Inner.Sums.{IsMissingInEither, same_extent, same_place, values_where, with_cell, with_met}
pub use Rattle.wi_lookup_functions.specs.declared.axis.Axis.{Axis}
pub use Rattle.wi_lookup_functions.specs.declared.axis.Axis.TheVariants.{Columns, Rows}
pub use Rattle.wi_lookup_functions.specs.declared.counting.Counting.{Counting}
pub use Rattle.wi_lookup_functions.specs.declared.criterion.Criterion.{Criterion}
pub use Rattle.wi_lookup_functions.specs.declared.criterion.Relation.{Relation}
pub use Rattle.wi_lookup_functions.specs.declared.criterion.Relation.TheVariants.{AtLeast, AtMost, Unequal}
pub use Rattle.wi_lookup_functions.specs.declared.rule.Rule.{Rule}
pub use Rattle.wi_lookup_functions.specs.declared.rule.Rule.TheVariants.{FirstEqual, LastAtLeast, LastAtMost}
pub use Rattle.wi_lookup_functions.specs.declared.search.Search.{Search}
pub use Rattle.wi_standard_functions.proofs.Criteria.{meets_is}
pub use Rattle.wi_standard_functions.specs.Arguments.{Argument, Region, region_at, region_of, region_referred, value_at, value_or}
pub use Rattle.wi_standard_functions.specs.Arithmetic.{addition, fitting, multiplication, whole_value}
pub use Rattle.wi_standard_functions.specs.Comparison.{rank, value_order}
pub use Rattle.wi_standard_functions.specs.Convert.{one_number, to_logical, to_number, to_whole, zero_number}
pub use Rattle.wi_standard_functions.specs.Criterion.{constant_of, meets_criterion}
pub use Rattle.wi_standard_functions.specs.FirstError.{no_error}
pub use Rattle.wi_standard_functions.specs.Information.{count_if_value, is_empty_value}
pub use Rattle.wi_standard_functions.specs.Inner.Criteria.{criterion_of, is_met_by}
pub use Rattle.wi_standard_functions.specs.Inner.Named.{chosen_cells, h_lookup_value, index_along, index_by_both, nth_cell_along, region_or, sum_if_by, sum_of_items, type_for, v_lookup_value, values_along, with_number}
pub use Rattle.wi_standard_functions.specs.Lookup.{cell_in, index_value, match_value, nth_cell, position_among}
pub use Rattle.wi_standard_functions.specs.Matching.{can_be_found, is_match, last_position, match_position, same_kind, sought_for}
pub use Rattle.wi_standard_functions.specs.Mathematical.{factor, of_one_size, product_at, products, same_size, sum_product_value}
pub use Rattle.wi_standard_functions.specs.Sequence.{Item, from_cell, number_of_item, scalar}
pub use Rattle.wi_standard_functions.specs.Steps.{and_then, map_until_error, ◌>>=◌}
pub use Rattle.wi_value_functions.proofs.Counts.{cut_counted, cut_value}
pub use Rattle.wi_value_functions.specs.NoValues.{IfMissing, as_value}
pub use Rattle.wi_value_functions.specs.Inner.Counts.{IsCut, counted}
pub use Rattle.wi_value_functions.specs.declared.no_value.NoValue.{NoValue}
pub use Rattle.wi_value_functions.specs.declared.no_value.NoValue.TheVariants.{Error, Stopped}
pub use Rattle.wi_value_functions.specs.declared.no_value.Stop.{Stop}
pub use Rattle.wi_value_functions.specs.declared.no_value.Stop.TheVariants.{Memory, Missing}
pub use Rattle.wi_values.proofs.Within.{column_of_place, column_within, places_left, row_of_place, within_between, within_from, within_parts}
pub use Rattle.wi_values.specs.Address.{Area, cells_of, column_of, height, is_within, is_within_one, place, rect_of, row_of, width}
pub use Rattle.wi_values.specs.Inner.Cells.{sooner}
pub use Rattle.wi_values.specs.declared.value.ErrorKind.{ErrorKind}
pub use Rattle.wi_values.specs.declared.value.ErrorKind.TheVariants.{BadReference, BadValue, NotAvailable}
pub use Rattle.wi_values.specs.declared.value.Value.{Value}
pub use Rattle.wi_values.specs.declared.value.Value.TheVariants.{Empty, Fault, Logical, Number, Text}
