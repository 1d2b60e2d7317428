-- The words of the library, of the crates below and of this crate's definitions that its proofs are written in.
pub use Rattle.std.proofs.Common.{All, Any, Bool, Bor, Contains, IfNone, IfSome, List, None, Option, Some, [], add-one, ap, append-nil, append_assoc, ap₂, arith, codes, cond, eq-eqb, false, filter, get_or, if◌then◌else◌, inl, inr, is_some, length, map, not, option_map, refl, subst, suc, sum_by, sym, take, true, zero, ℕ, ◌&&◌, ◌*◌, ◌++◌, ◌+◌, ◌-◌, ◌<◌, ◌==◌, ◌||◌, ◌∙◌, ◌∷◌, ◌≡◌, ◌≤◌, ◌⊎◌}
pub use Rattle.std.proofs.Math.Bool.{and-false, and-or_distrib_left, or-false}
pub use Rattle.std.proofs.Math.Seq.{take-nil}
pub use Rattle.std.proofs.lemmas.Bool.{and_from, and_parts, cases_Bool, eqb-true, false_from_ne_true, le-leb, le-ltb, leb-true, lt-ltb, or_cases, or_left, or_parts, or_right, true≢false}
pub use Rattle.std.proofs.lemmas.Bool.Decides.{nat_tests}
pub use Rattle.std.proofs.lemmas.Grind.{common_steps}
pub use Rattle.std.proofs.lemmas.List.Elements.{All-weaker, filter_agree}
pub use Rattle.std.proofs.lemmas.List.Folds.{Any-from_list_any, list_any-append, list_any_at, list_any_none}
pub use Rattle.std.proofs.lemmas.List.Kept.{AllPairs-from_increasing, IsStrictlyIncreasing-filter}
pub use Rattle.std.proofs.lemmas.List.Sums.{sum_by-cons}
pub use Rattle.std.proofs.lemmas.Map.Made.{is_some-lookup}
pub use Rattle.std.specs.BTreeMap.{insert_entry, is_at}
pub use Rattle.std.specs.Global.{Vec}
pub use Rattle.std.specs.List.{AllPairs, find, flat_map, list_any}
pub use Rattle.std.specs.List.Sorted.{IsStrictlyIncreasing}
pub use Rattle.std.specs.Map.{keys_of, lookup}
pub use Rattle.std.specs.Option.{option_copied, option_or}
pub use Rattle.std.specs.Ordering.{match_ordering, nat_cmp}
pub use Rattle.std.specs.Prelude.{nat_le, nat_lt, ⊤}
pub use Rattle.std.specs.declared.cmp.Ordering.{Ordering}
pub use Rattle.std.specs.declared.cmp.Ordering.TheVariants.{Equal, Greater, Less}
pub use Rattle.wi_arguments.proofs.RowMajor.{region_same}
pub use Rattle.wi_arguments.specs.Assignment.{addresses}
pub use Rattle.wi_functions.specs.Counts.{Counts}
pub use Rattle.wi_functions.specs.Inner.Named.{hundredth, is_one_cell}
pub use Rattle.wi_functions.specs.Meaning.{arguments, meaning, referred, zero_for_empty}
pub use Rattle.wi_functions.specs.Operators.{operate, with_sign}
pub use Rattle.wi_functions.specs.Wants.{LeafAsks, TreeAsks}
pub use Rattle.wi_functions.specs.declared.evaluation.Want.TheVariants.{Cell, WhatIf}
pub use Rattle.wi_graph.proofs.Agreement.{agree_here, agree_next, circular_same}
pub use Rattle.wi_graph.proofs.BoundsSteps.{sides_of}
pub use Rattle.wi_graph.proofs.Cones.{agree_outside, cone_closed, cone_least, cone_stays, outside_reaches}
pub use Rattle.wi_graph.proofs.EdgeLemmas.{content_of-with}
pub use Rattle.wi_graph.proofs.Ends.{ends_open}
pub use Rattle.wi_graph.proofs.Graphs.{stripped}
pub use Rattle.wi_graph.proofs.Layers.{in_layer, is_key, layer_zero, walker_has_formula}
pub use Rattle.wi_graph.proofs.ReachSteps.{reaches_here, reaches_on, reaches_read}
pub use Rattle.wi_graph.proofs.ReachTest.{not_in_cone, true_reaches}
pub use Rattle.wi_graph.proofs.Tests.{clash}
pub use Rattle.wi_graph.proofs.Walks.{circular_is, circular_walks, first_step, formula_cell, reader_formula, same_cell, step, walks_circular}
unfoldable pub use Rattle.wi_graph.specs.Circular.{circular}
pub use Rattle.wi_graph.specs.Inner.Walks.{has_walk}
pub use Rattle.wi_graph.specs.Reach.{AgreeFrom, IsInCone, Reaches, SameOff, Walks, in_cone}
unfoldable pub use Rattle.wi_graph.specs.Reach.{reaches}
pub use Rattle.wi_parser.proofs.Rectangles.{one_cell, reads_within}
pub use Rattle.wi_parser.specs.Leaves.{Leaf, all_leaves, cell_leaf, leaves, rectangle_leaf, what_if_leaf}
pub use Rattle.wi_parser.specs.Reads.{cell_area, content_reads, leaf_reads, leaf_rectangles, reads, rectangles_of}
pub use Rattle.wi_parser.specs.Sheet.{Sheet, cells_with_formula, constant, content_of, has_formula, put_all, with_content}
pub use Rattle.wi_parser.specs.Inner.Puts.{put, without}
pub use Rattle.wi_parser.specs.Tree.{Tree, Trees, binary, call, cell, more_trees, no_trees, number, parenthesized, percent, rectangle, signed, text, what_if, area_of}
pub use Rattle.wi_parser.specs.View.{pair_of}
pub use Rattle.wi_parser.specs.declared.content.Content.{Content}
pub use Rattle.wi_parser.specs.declared.content.Content.TheVariants.{Constant, Formula}
pub use Rattle.wi_parser.specs.declared.expr.Operator.{Operator}
pub use Rattle.wi_parser.specs.declared.expr.Operator.TheVariants.{Join}
pub use Rattle.wi_parser.specs.declared.expr.Pair.{Pair}
pub use Rattle.wi_parser.specs.declared.expr.Reference.{Reference}
pub use Rattle.wi_sheet.specs.Inner.Asked.{asks_circular, formula_in, replacements}
pub use Rattle.wi_sheet.specs.CellValue.{value_of, what_if_in, what_if_value}
unfoldable pub use Rattle.wi_sheet.specs.CellValue.{cell_value, value_within}
pub use Rattle.wi_sheet.specs.Demand.{Case, case_of, demanded, different, formulas_read_here, leaf_reads_here, leaf_what_ifs, of_formula, precedent_cases, reaching, reads_here, same_case, wants, what_if_case, what_ifs_of, with_what_if}
unfoldable pub use Rattle.wi_sheet.specs.Demand.{demand, demand_within}
pub use Rattle.wi_sheet.specs.Inner.Rank.{lengths_below}
unfoldable pub use Rattle.wi_sheet.specs.Inner.Rank.{reach_rank}
pub use Rattle.wi_sheet.specs.Inner.ReadCells.{cells_after, is_after, occupied_within, rectangles_in}
pub use Rattle.wi_sheet.specs.Inner.ReadOrder.{IsReadOrder, MayFollow}
pub use Rattle.wi_sheet.specs.Inner.Spending.{HasCase, HasEntry, IsClosed, NeverFall, RestsOn, SpentOn, Table, cost, left, plus, price}
pub use Rattle.wi_sheet.specs.Settled.{IsSettled, IsWhatIfSettled, RestsOnKept}
unfoldable pub use Rattle.wi_sheet.specs.Shown.{shown}
pub use Rattle.wi_sheet.specs.TableEntry.{entry_demanded, open_demand, table_demand}
unfoldable pub use Rattle.wi_sheet.specs.TableEntry.{table_entry}
pub use Rattle.wi_sheet.specs.Unmoved.{IsMarking, IsUnmoved, SayTheSameOff}
pub use Rattle.wi_standard_functions.specs.Arguments.{Argument, Region, region_of}
pub use Rattle.wi_standard_functions.specs.Functions.{call_value}
pub use Rattle.wi_values.proofs.Corners.{corners_may_turn}
pub use Rattle.wi_values.proofs.Listed.{has-filter, has_key}
pub use Rattle.wi_values.proofs.Lists.{each_fails, sum_ones}
pub use Rattle.wi_values.proofs.Order.{Ascends, Ascends-from_order, Ascends-insert, order-from_Ascends, turn_test}
pub use Rattle.wi_values.proofs.Replacements.Filtering.{order_of_filter, replaced-filter}
pub use Rattle.wi_values.proofs.Replacements.InOrder.{as_map-as_replacements, as_replacements-as_map, order_from_entries, same_from_replaced, sorted_from_order}
pub use Rattle.wi_values.proofs.Replacements.Overriding.{lookup-overridden, overridden-nothing}
pub use Rattle.wi_values.proofs.Replacements.Same.{same_replacements_Decides}
pub use Rattle.wi_values.proofs.Small.{one_at_most}
pub use Rattle.wi_values.proofs.Within.{fewer_places, places_left, within_between, within_parts}
pub use Rattle.wi_values.specs.Address.{Area, column_of, is_one_of, is_within, is_within_one, place, rect_of, row_of}
pub use Rattle.wi_values.specs.Replacements.{IsInOrder, as_map, as_replacements, last_for, overridden, replaced, same_replacements}
unfoldable pub use Rattle.wi_values.specs.Value.{shown_text}
pub use Rattle.wi_values.specs.declared.replacement.Replacement.{Replacement}
pub use Rattle.wi_values.specs.declared.value.ErrorKind.TheVariants.{BadValue, Circular}
pub use Rattle.wi_values.specs.declared.value.Value.{Value}
pub use Rattle.wi_values.specs.declared.value.Value.TheVariants.{Empty, Fault, Logical, Number, Text}
