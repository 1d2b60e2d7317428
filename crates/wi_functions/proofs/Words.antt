-- The words of the library, of the crates below and of this crate's definitions that its proofs are written in.
pub use Rattle.std.proofs.Common.{Any, Bool, Contains, Err, FitsSigned, IfOk, IfSome, List, None, Ok, Option, Result, Some, [], ap, append_assoc, ap₂, arith, cond, drop, drop-cons, eq-eqb, false, length, lit<, lit≤, map, max, refl, rules, slice_index_or, subst, suc, sym, true, zero, ℕ, ℤ, ◌*◌, ◌++◌, ◌+◌, ◌<◌, ◌==◌, ◌||◌, ◌∙◌, ◌∷◌, ◌≡◌, ◌≤◌}
pub use Rattle.std.proofs.Math.Nat.{div-add-mod', mod-lt}
pub use Rattle.std.proofs.lemmas.Bool.{eqb-true}
pub use Rattle.std.proofs.lemmas.Bool.Decides.{nat_tests}
pub use Rattle.std.proofs.lemmas.Int.{ints, to_z-of_z}
pub use Rattle.std.proofs.lemmas.List.{append-nil, drop_all, map-append}
pub use Rattle.std.proofs.lemmas.List.Elements.{Contains-append_left, Contains-append_right}
pub use Rattle.std.proofs.lemmas.List.Folds.{list_any-append}
pub use Rattle.std.proofs.lemmas.List.Quantifiers.{Any-push}
pub use Rattle.std.proofs.lemmas.Option.{IfSome_then}
pub use Rattle.std.proofs.lemmas.Result.{MatchResult-weaker, err_from_is_err_and}
pub use Rattle.std.specs.Int.{w128}
pub use Rattle.std.specs.List.{list_any}
pub use Rattle.std.specs.Prelude.{MatchResult, int_lt, negsuc, ok_or, pos, slice_get, unsigned_abs, ◌-◌, ◌^◌, ◌≤ℤ◌}
pub use Rattle.wi_arguments.specs.Arguments.{IsMissing, argument_in, arguments_in, refers_to, value_of_area}
pub use Rattle.wi_arguments.specs.Assignment.{AgreesWith, Assignment}
unfoldable pub use Rattle.wi_fraction.specs.Arithmetic.{sum_of}
unfoldable pub use Rattle.wi_fraction.specs.Gcd.{gcd}
pub use Rattle.wi_fraction.specs.Gcd.Laws.{gcd-one}
pub use Rattle.wi_fraction.specs.Number.{max_size}
pub use Rattle.wi_functions.specs.Evaluation.{ByAll, IsValueOf, IsWanted}
pub use Rattle.wi_functions.specs.Inner.Calls.{ReferInside, values_of}
pub use Rattle.wi_functions.specs.Inner.Named.{is_one_cell}
pub use Rattle.wi_functions.specs.Inner.Parts.{Evaluates, Part, mapped, of_parameters, of_tree, stopped}
pub use Rattle.wi_functions.specs.Meaning.{arguments, meaning, referred, zero_for_empty}
pub use Rattle.wi_functions.specs.Operators.{operate}
pub use Rattle.wi_functions.specs.Wants.{AnyLeafAsks, AnyTreeAsks, LeafAsks, TreeAsks, WantsCell, WantsWithin}
pub use Rattle.wi_functions.specs.declared.evaluation.Want.{Want}
pub use Rattle.wi_functions.specs.declared.evaluation.Want.TheVariants.{Cell, WhatIf}
pub use Rattle.wi_parser.proofs.ExprTrees.{binary_seen, call_seen, what_if_seen}
pub use Rattle.wi_parser.proofs.Rectangles.{one_cell}
pub use Rattle.wi_parser.proofs.expr.Expr.TheLaws.{the_size}
pub use Rattle.wi_parser.specs.Leaves.{Leaf, all_leaves, cell_leaf, leaves, rectangle_leaf, what_if_leaf}
pub use Rattle.wi_parser.specs.Reads.{cell_area}
pub use Rattle.wi_parser.specs.Tree.{Tree, Trees, binary, call, cell, number, parenthesized, rectangle, text, area_of}
pub use Rattle.wi_parser.specs.View.{all_of, pair_of, tree_of}
pub use Rattle.wi_parser.specs.declared.expr.Corners.{Corners}
pub use Rattle.wi_parser.specs.declared.expr.Expr.{Expr, the_lemmas}
pub use Rattle.wi_parser.specs.declared.expr.Operator.{Operator}
pub use Rattle.wi_parser.specs.declared.expr.Operator.TheVariants.{Add}
pub use Rattle.wi_standard_functions.specs.Arguments.{Argument, value_at, value_or}
pub use Rattle.wi_standard_functions.specs.Convert.{to_whole}
pub use Rattle.wi_standard_functions.specs.Functions.{call_value}
pub use Rattle.wi_standard_functions.specs.Inner.Named.{argument_of, choose_of, chosen}
pub use Rattle.wi_standard_functions.specs.Steps.{◌>>=◌}
pub use Rattle.wi_value_functions.proofs.ValuesAlone.{values_alone}
pub use Rattle.wi_value_functions.specs.Applied.{applied_to_arguments, applied_to_values}
pub use Rattle.wi_value_functions.specs.NoValues.{IfMissing}
pub use Rattle.wi_value_functions.specs.declared.no_value.Stop.{Stop}
pub use Rattle.wi_value_functions.specs.declared.no_value.Stop.TheVariants.{Memory, Missing}
pub use Rattle.wi_value_functions.specs.declared.function.Function.{Function}
pub use Rattle.wi_value_functions.specs.declared.function.Function.TheVariants.{Lazy, References}
pub use Rattle.wi_values.proofs.Corners.{corners_may_turn}
pub use Rattle.wi_values.specs.Address.{Area, column_of, is_within, rect_of, row_of}
pub use Rattle.wi_values.specs.declared.value.ErrorKind.{ErrorKind}
pub use Rattle.wi_values.specs.declared.value.ErrorKind.TheVariants.{BadNumber, BadValue}
pub use Rattle.wi_values.specs.declared.value.Value.{Value}
pub use Rattle.wi_values.specs.declared.value.Value.TheVariants.{Empty, Fault}
