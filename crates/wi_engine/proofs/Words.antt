-- The words of the library, of the crates below and of this crate's definitions that its proofs are written in.
pub use Rattle.std.proofs.Common.{All, Bool, Contains, Err, IfNone, IfOk, IfSome, IsErr, IsSome, List, MatchResult, None, Ok, OnErr, OnOk, Option, Result, Some, [], ap, append-nil, append_assoc, arith, cond, drop, drop-cons, eq-eqb, eqb-true, false, filter, get_or, if◌then◌else◌, inl, inr, is_ok, is_some, length, length-append, map, map-id, not, refl, rules, slice_get, subst, suc, sum_by, sym, take, take_all, true, true≢false, zero, ℕ, ◌&&◌, ◌*◌, ◌++◌, ◌+◌, ◌-◌, ◌<◌, ◌==◌, ◌^◌, ◌||◌, ◌∙◌, ◌∷◌, ◌≡◌, ◌≤◌, ◌⊎◌}
pub use Rattle.std.proofs.Math.Bool.{or-false}
pub use Rattle.std.proofs.Math.ListN.{drop_of_length-le}
pub use Rattle.std.proofs.lemmas.Bool.{and_from, and_parts, cases_lt, false_from_ne_true, le-leb, leb-true, lt-leb, ltb-false, ltb-true, or_cases, or_from, or_left, or_parts, or_right}
pub use Rattle.std.proofs.lemmas.Bool.Decides.{nat_tests}
pub use Rattle.std.proofs.lemmas.Grind.{common_steps}
pub use Rattle.std.proofs.lemmas.List.{drop_all, get_or-map, length-map, map-append, take-append-drop, take_rest}
pub use Rattle.std.proofs.lemmas.List.Elements.{All-cons, All-head, All-map, All-more, All-nil, All-tail}
pub use Rattle.std.proofs.lemmas.List.Folds.{list_any-append}
pub use Rattle.std.proofs.lemmas.List.Sorted.{IsPartitionPoint-from_clause, IsPartitionedBy-ltb, answers_always}
pub use Rattle.std.proofs.lemmas.List.Sums.{sum_by-cons, sum_by-le-sum_by}
pub use Rattle.std.proofs.lemmas.Map.Keys.{IsDistinct-cons, below_from_sorted, sorted_from_strictly_increasing}
pub use Rattle.std.proofs.lemmas.Option.{IfSome_then}
pub use Rattle.std.proofs.lemmas.Result.{IfOk-weaker, on_ok_weaker}
pub use Rattle.std.specs.BTreeMap.{BTreeMap, IsEmpty, Updates, get, is_at}
pub use Rattle.std.specs.BTreeSet.{BTreeSet, contains}
pub use Rattle.std.specs.Borrow.{Bor}
pub use Rattle.std.specs.Cmp.Derive.{one_truth}
pub use Rattle.std.specs.Global.{Vec}
pub use Rattle.std.specs.List.{find, list_any}
pub use Rattle.std.specs.List.Sorted.{IsBinarySearchResult, IsNonDecreasingBy, IsPartitionPoint, IsSearchInRange, IsStrictlyIncreasing, IsStrictlySortedBy}
pub use Rattle.std.specs.Map.{keys_of, lookup}
pub use Rattle.std.specs.Option.{is_none, option_copied, option_or}
pub use Rattle.std.specs.Ordering.{nat_cmp}
pub use Rattle.std.specs.Prelude.{MatchOption, nat_le, nat_lt, option_map, vec_capacity, vec_len}
pub use Rattle.std.specs.declared.alloc.AllocError.{AllocError}
pub use Rattle.wi_arguments.proofs.Passing.{Passed, passed_on}
pub use Rattle.wi_arguments.proofs.Walking.{PassesEmpty, enough, joined, moves_on, successor_to_come}
pub use Rattle.wi_arguments.specs.Assignment.{AgreesWith, Assignment, addresses, value_if_known}
pub use Rattle.wi_arguments.specs.Filled.{ComesBefore, is_known_empty}
pub use Rattle.wi_arguments.specs.Walk.{HasTaken, after_cells}
pub use Rattle.wi_arguments.specs.declared.lookup.LookedUp.{LookedUp}
pub use Rattle.wi_cache.proofs.Keys.{same_key_Decides}
pub use Rattle.wi_cache.specs.Entries.{Entries, PutsIn, same_key, value_for}
pub use Rattle.wi_cache.specs.declared.key.Key.{Key}
pub use Rattle.wi_engine.specs.Inner.Attempt.{AsksAt, IsLacking, cell_known, known_in, lacking, lacking_after, lacks_cell}
pub use Rattle.wi_engine.specs.Inner.Attempts.{IsAttemptOf}
pub use Rattle.wi_engine.specs.Inner.Scans.{AreTogether, IsScanTo, IsSmallestWith, is_next, part}
pub use Rattle.wi_engine.specs.Inner.Findings.{AreAllRight, IsWithCell, IsWithWhatIf, found_value, found_what_ifs, what_if_found}
pub use Rattle.wi_engine.specs.Inner.Frames.{AreBelow, AreLinked, AreReadHere, Awaits, BottomIs, IsAwaited, IsBegun, IsDemanded, IsFormulaKey, IsFrame, IsNext, IsNextFormula, IsStack, IsUnvalued, IsUnvaluedFormula, IsUnvaluedKey, IsWaitedFor, MayBeRead, StandsAt, at_most, case_at, content_reads_here, frame_cost, frames_cost, key_above, lacks, spare, taken, waits}
pub use Rattle.wi_engine.specs.Inner.Keeps.{HasFound, Keeps}
pub use Rattle.wi_engine.specs.Inner.Lists.{first_for, first_of, pairs_of, same_pairs}
pub use Rattle.wi_engine.specs.Inner.MemoState.{AreKnownRight, IsClosedUnderReads, IsMemoOf, IsComplete, MemoState}
pub use Rattle.wi_engine.specs.Inner.Remembered.{AreCones, OneQuestion, key_of, question_state, remembered}
pub use Rattle.wi_engine.specs.Inner.Saving.{GivesUpWhenFull, IsValuedAnew, KeepsFound, NeedsNoEvaluation, TakesNoMore, TakesPlaces, WhereSpace, not_kept}
pub use Rattle.wi_engine.specs.Inner.ContentRef.{as_content}
pub use Rattle.wi_engine.specs.Inner.SettledFrames.{AreFoundSettled, HasOneMeaning, IsFrameSettled}
pub use Rattle.wi_engine.specs.Inner.Spends.{IsSameBeside, Saved, Spends, SpendsAtMost, ValuesCell}
pub use Rattle.wi_engine.specs.Inner.StackLists.{HasLast, HaveRests, HaveSpace, IsWithFrame, count_more, frame_of, frames_in, rests_behind, stack_state, with_its_rest, with_rest}
pub use Rattle.wi_engine.specs.Inner.Stacked.{HasSpaceForOne, StackState, StackedFrame, cells_of, other_than_cells, seen_as, stacked, waits_for_one}
pub use Rattle.wi_engine.specs.Inner.Steps.{FrameCounts, FrameSteps, FrameTakes, FrameWaits, IsFrameValue, IsShownNow, IsWorldWith}
pub use Rattle.wi_engine.specs.Inner.Touched.{earlier}
pub use Rattle.wi_engine.specs.Inner.Walk.{EachLeave, Enter, GoesOn, HasCycle, IsBelow, IsOpen, IsWalk, LeadsTo, Leave, Task, begun, cells_ahead, enters, has_leave, has_task, leaves, progress_of, task_cell, tasks_at, tasks_in, tasks_left, tasks_of, unread}
pub use Rattle.wi_engine.specs.declared.scan.Scan.{Scan}
pub use Rattle.wi_engine.specs.declared.scan.Way.{Way}
pub use Rattle.wi_engine.specs.declared.scan.Way.TheVariants.{Alone, Column, Row, Whole}
pub use Rattle.wi_engine.specs.declared.findings.Findings.{Findings}
pub use Rattle.wi_engine.specs.declared.frame.Frame.{Frame}
pub use Rattle.wi_engine.specs.declared.frame.Unvalued.{Unvalued}
pub use Rattle.wi_engine.specs.declared.frame.Waiting.{Waiting}
pub use Rattle.wi_engine.specs.declared.frame.Waiting.TheVariants.{Cells, Nothing}
pub use Rattle.wi_engine.specs.declared.known.Known.{Known}
pub use Rattle.wi_engine.specs.declared.lists.FoundWhatIf.{FoundWhatIf}
pub use Rattle.wi_engine.specs.declared.content_ref.ContentRef.{ContentRef}
pub use Rattle.wi_engine.specs.declared.stack.Beside.{Beside}
pub use Rattle.wi_engine.specs.declared.stack.Beside.TheVariants.{More, OneCell}
pub use Rattle.wi_engine.specs.declared.stack.Entry.{Entry}
pub use Rattle.wi_engine.specs.declared.stack.Rest.{Rest}
pub use Rattle.wi_engine.specs.declared.walk.Progress.{Progress}
pub use Rattle.wi_engine.specs.declared.walk.Progress.TheVariants.{Done, Open}
pub use Rattle.wi_engine.specs.declared.walk.Visit.{Visit}
pub use Rattle.wi_functions.proofs.Outcomes.{same_by_all, value_by_all}
pub use Rattle.wi_functions.specs.Counts.{Counts, one_more}
pub use Rattle.wi_functions.specs.Evaluation.{IsOutcomeOf}
pub use Rattle.wi_functions.specs.Meaning.{meaning}
pub use Rattle.wi_functions.specs.Wants.{IsUnknown, TreeAsks}
pub use Rattle.wi_functions.specs.declared.evaluation.Outcome.{Outcome}
pub use Rattle.wi_functions.specs.declared.evaluation.Outcome.TheVariants.{Needs}
pub use Rattle.wi_functions.specs.declared.evaluation.Want.{Want}
pub use Rattle.wi_functions.specs.declared.evaluation.Want.TheVariants.{Cell, WhatIf}
pub use Rattle.wi_graph.proofs.Ends.{ends_open}
pub use Rattle.wi_graph.proofs.Graphs.{left_circular}
pub use Rattle.wi_graph.proofs.Layers.{list_any-both}
pub use Rattle.wi_graph.proofs.ReachSteps.{reaches_by_step, reaches_here, reaches_on, reaches_read, reaches_step}
pub use Rattle.wi_graph.proofs.ReachTest.{finds_in, reaches_true, true_reaches}
pub use Rattle.wi_graph.proofs.Walks.{formula_cell, found, same_cell}
pub use Rattle.wi_graph.specs.Circular.{circular}
pub use Rattle.wi_graph.specs.Reach.{Reaches, reaches}
pub use Rattle.wi_parser.proofs.Rectangles.{one_cell, reads_within}
pub use Rattle.wi_parser.specs.Reads.{content_reads, reads, rectangles_of}
pub use Rattle.wi_parser.specs.Sheet.{Sheet, cells_with_formula, constant, content_of, has_formula, put_all}
pub use Rattle.wi_parser.specs.Tree.{Tree}
pub use Rattle.wi_parser.specs.View.{pair_of}
pub use Rattle.wi_parser.specs.declared.content.Content.{Content}
pub use Rattle.wi_parser.specs.declared.content.Content.TheVariants.{Constant, Formula}
pub use Rattle.wi_parser.specs.declared.expr.Pair.{Pair}
pub use Rattle.wi_sheet.proofs.Bounds.{put_formula, put_reads, tree_reads}
pub use Rattle.wi_sheet.proofs.CaseCosts.{left_at_keep, left_falls, never_fall-same, never_fall-then, one_less_left, spent_all, spent_none, spent_nothing, spent_price, spent_then, spent_weaken}
pub use Rattle.wi_sheet.proofs.Cases.{one_case, pair_path, same_case-refl}
pub use Rattle.wi_sheet.proofs.Demands.{demand_closed, demand_has_itself, here_reads, same_tree, what_if_reads}
pub use Rattle.wi_sheet.proofs.Filters.{PassesToo, fewer, no_more}
pub use Rattle.wi_sheet.proofs.Inputs.{one_more_input}
pub use Rattle.wi_sheet.proofs.Last.{over}
pub use Rattle.wi_sheet.proofs.Meanings.{meaning_same}
pub use Rattle.wi_sheet.proofs.Members.{IsIn, contains_in, found_in, in_contained}
pub use Rattle.wi_sheet.proofs.NextCells.{all_after, any_within, first_passing, from_next, listed_all, listed_enough, listed_first, listed_on, next_if_none, next_if_some, next_is_first, none_after, none_left, passes_beyond, passes_here, passing_from}
pub use Rattle.wi_sheet.proofs.Overrides.{content_in_order, reaching_suffices, replaced_world, with_what_if_value}
pub use Rattle.wi_sheet.proofs.PlainCells.{plain_cell, put_cell}
pub use Rattle.wi_sheet.proofs.PutOrders.{left_there, put_there}
pub use Rattle.wi_sheet.proofs.Puts.{plain}
pub use Rattle.wi_sheet.proofs.Ranks.{measure_falls_at_keep, measure_falls_at_push, rests_rank}
pub use Rattle.wi_sheet.proofs.ReadLists.{occupied_read, read_occupied}
pub use Rattle.wi_sheet.proofs.ReadOrders.{no_order, order-push, order_clear}
pub use Rattle.wi_sheet.proofs.Rectangles.{IsWhole, in_corners, in_one_of, rectangle_whole}
pub use Rattle.wi_sheet.proofs.SettledTables.{rests_more, settled_more, what_if_more}
pub use Rattle.wi_sheet.proofs.SmallerWorlds.{content_below, reaching_below}
pub use Rattle.wi_sheet.proofs.Steps.{put_not_circular, reads_not_circular, value_plain, value_step}
pub use Rattle.wi_sheet.proofs.Wants.{asked_cell, asked_replacing, asked_what_if, is_in, rests_on_read, rests_on_what_if}
pub use Rattle.wi_sheet.specs.CellValue.{cell_value, value_of, what_if_value}
pub use Rattle.wi_sheet.specs.Inner.Asked.{replacements}
pub use Rattle.wi_sheet.specs.Demand.{Case, case_of, demand, formulas_read_here, of_formula, reaching, reads_here, same_case, wants, what_ifs_of, with_what_if}
pub use Rattle.wi_sheet.specs.Inner.Rank.{reach_rank}
pub use Rattle.wi_sheet.specs.Inner.ReadCells.{cells_after, is_after, occupied_within, rectangles_in}
pub use Rattle.wi_sheet.specs.Inner.ReadOrder.{IsReadOrder, MayFollow}
pub use Rattle.wi_sheet.specs.Inner.Spending.{HasCase, IsClosed, NeverFall, RestsOn, SpentOn, Table, cost, left, plus}
pub use Rattle.wi_sheet.specs.Settled.{AgreesWhereSettled, IsSettled, IsWhatIfSettled, RestsOnKept}
pub use Rattle.wi_store.proofs.NextRoom.{find_ahead}
pub use Rattle.wi_store.specs.Store.{Stored, is_ahead}
pub use Rattle.wi_values.proofs.Listed.{found_by_key, has-filter, has_one_more, has_taken}
pub use Rattle.wi_values.proofs.Lists.{keeps_few}
pub use Rattle.wi_values.proofs.Order.{Ascends, Ascends-from_order, ComeAfter, at_earlier, at_itself, at_same, come_after_earlier, is_at-eq, lookup_after, order-from_Ascends, turn_test}
pub use Rattle.wi_values.proofs.Replacements.InOrder.{order_from_sorted, sorted_from_order}
pub use Rattle.wi_values.proofs.Within.{column_within, places_left, within_between, within_from, within_parts}
pub use Rattle.wi_values.specs.Address.{Area, column_of, is_one_of, is_within, is_within_one, row_of, size_of}
pub use Rattle.wi_values.specs.Replacements.{IsInOrder, as_map, replaced, same_replacements}
pub use Rattle.wi_values.specs.declared.replacement.Replacement.{Replacement}
pub use Rattle.wi_values.specs.declared.value.Value.{Value}
pub use Rattle.wi_values.specs.declared.value.Value.TheVariants.{Empty, Fault, Logical, Number, Text}
