-- The words of the library, of the crates below and of this crate's definitions that its proofs are written in.
pub use Rattle.std.proofs.Common.{Bool, List, None, Option, Some, [], ap, arith, cond, drop, false, fold, get_or, length, map, not, refl, rules, subst, sym, true, ℕ, ◌&&◌, ◌+◌, ◌<◌, ◌∙◌, ◌∷◌, ◌≡◌}
pub use Rattle.std.proofs.lemmas.List.{drop_all, drop_more}
pub use Rattle.std.proofs.lemmas.List.Folds.{list_any_at}
pub use Rattle.std.proofs.lemmas.List.Sums.{fold-append}
pub use Rattle.std.proofs.lemmas.Result.{IfOk-from_err}
pub use Rattle.std.specs.List.{flat_map, list_all, list_any, reduce}
pub use Rattle.std.specs.Option.{option_to_list}
pub use Rattle.std.specs.Prelude.{Err, IfErr, IfOk, Ok, Result, is_err, is_some, unwrap_or, ◌||◌}
pub use Rattle.std.specs.Result.{IsErrAnd}
pub use Rattle.wi_arguments.specs.Arguments.{IsMissing, IsOfArguments, KnownAgrees, argument_in, arguments_in, refers_to}
pub use Rattle.wi_arguments.specs.Walk.{after_cells}
pub use Rattle.wi_fold_functions.specs.Inner.Items.{go_on, go_on_through, item_of, items_of, shown}
pub use Rattle.wi_fold_functions.specs.Inner.Made.{all_with, any_with, calculated_with, chosen, chosen_with, filled_with, greatest_with, least_with, logical_chosen, mean_value, mean_with, number_chosen, numbers_with, product_with, sum_with}
pub use Rattle.wi_fold_functions.specs.declared.information.FilledCount.{FilledCount}
pub use Rattle.wi_fold_functions.specs.declared.information.NumberCount.{NumberCount}
pub use Rattle.wi_fold_functions.specs.declared.logical.AllTrue.{AllTrue}
pub use Rattle.wi_fold_functions.specs.declared.logical.AnyTrue.{AnyTrue}
pub use Rattle.wi_fold_functions.specs.declared.mathematical.Product.{Product}
pub use Rattle.wi_fold_functions.specs.declared.mathematical.Sum.{Sum}
pub use Rattle.wi_fold_functions.specs.declared.statistical.Average.{Average}
pub use Rattle.wi_fold_functions.specs.declared.statistical.Greatest.{Greatest}
pub use Rattle.wi_fold_functions.specs.declared.statistical.Least.{Least}
pub use Rattle.wi_standard_functions.specs.Arguments.{Argument}
pub use Rattle.wi_standard_functions.specs.Arithmetic.{addition, division, multiplication, whole_number, whole_value}
pub use Rattle.wi_standard_functions.specs.Convert.{one_number, zero_number}
pub use Rattle.wi_standard_functions.specs.Information.{is_empty_value, is_number_value}
pub use Rattle.wi_standard_functions.specs.Inner.Named.{and_value, count_a_value, count_value, fold_until_error, greater_number, max_value, min_value, numbers_of, or_value, product_value, smaller_number, sum_value, tested, with_number}
pub use Rattle.wi_standard_functions.specs.Sequence.{Item, all_that_count, from_cell, logical_of_item, number_fold, number_of_item, sequence_of, value_of_item}
pub use Rattle.wi_standard_functions.specs.Statistical.{average_value}
pub use Rattle.wi_standard_functions.specs.Steps.{and_then, map_until_error, ◌>>=◌}
pub use Rattle.wi_value_functions.proofs.Counts.{cut_counted, cut_more, cut_number, cut_value, none_cut}
pub use Rattle.wi_value_functions.specs.Inner.Counts.{IsCut, counted}
pub use Rattle.wi_values.specs.Address.{Area, cells_of}
pub use Rattle.wi_values.specs.declared.value.ErrorKind.{ErrorKind}
pub use Rattle.wi_values.specs.declared.value.Value.{Value}
pub use Rattle.wi_values.specs.declared.value.Value.TheVariants.{Logical, Number}
