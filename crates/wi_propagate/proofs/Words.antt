-- The words of the library, of the crates below and of this crate's definitions that its proofs are written in.
pub use Rattle.std.proofs.Common.{All, Bool, Err, IfOk, IfSome, IsSome, List, None, Ok, OnErr, OnOk, Option, Result, Some, [], ap, arith, cond, eq-eqb, false, filter, get_or, if◌then◌else◌, inl, inr, is_ok, is_some, length, map, max, min, nat_le, nat_lt, not, refl, rules, slice_get, subst, suc, sym, take, true, zero, ℕ, ◌&&◌, ◌*◌, ◌++◌, ◌+◌, ◌-◌, ◌<◌, ◌==◌, ◌^◌, ◌||◌, ◌∙◌, ◌∷◌, ◌≡◌, ◌≤◌, ◌⊎◌}
pub use Rattle.std.proofs.Math.Bool.{or-false, or_assoc}
pub use Rattle.std.proofs.lemmas.Bool.{and_parts, cases_lt, eqb-true, false_from_ne_true, false≢true, ltb-false, or_cases, or_left, or_parts, or_right, true≢false}
pub use Rattle.std.proofs.lemmas.Bool.Decides.{nat_tests}
pub use Rattle.std.proofs.lemmas.Cmp.{eq_by_cmp_equiv, nat_cmp_total}
pub use Rattle.std.proofs.lemmas.Grind.{common_steps}
pub use Rattle.std.proofs.lemmas.List.{map-append, nil_from_length}
pub use Rattle.std.proofs.lemmas.List.Elements.{All-more, All-nil}
pub use Rattle.std.proofs.lemmas.List.Folds.{list_all_more, list_any_at, list_any_more}
pub use Rattle.std.proofs.lemmas.List.Sorted.{IsPermutation-map, list_any-IsPermutation}
pub use Rattle.std.proofs.lemmas.Map.{lookup-set_value}
pub use Rattle.std.proofs.lemmas.Map.Entries.{lookup_from_place}
pub use Rattle.std.proofs.lemmas.Map.Keys.{IsDistinct-head, IsDistinct-tail}
pub use Rattle.std.proofs.lemmas.Option.{slice_get_cases}
pub use Rattle.std.proofs.lemmas.Result.{IfOk-weaker}
pub use Rattle.std.specs.BTreeMap.{insert_entry, is_at}
pub use Rattle.std.specs.Global.{Box}
pub use Rattle.std.specs.Cmp.Derive.{one_truth}
pub use Rattle.std.specs.List.{AllByRecursion, IsDistinct, list_all, list_any}
pub use Rattle.std.specs.List.Sorted.{IsPermutation}
pub use Rattle.std.specs.Map.{keys_of, lookup, set_value, update}
pub use Rattle.std.specs.Option.{option_or, unwrap_or}
pub use Rattle.std.specs.Ordering.{eq_by_cmp, nat_cmp}
pub use Rattle.std.specs.declared.alloc.AllocError.{AllocError}
pub use Rattle.wi_cache.proofs.Callers.{holds_after_keep, none_goes_before}
pub use Rattle.wi_cache.proofs.Keys.{key_itself, same_key_equiv}
pub use Rattle.wi_cache.specs.Entries.{Entries, HasOneEach, HasSpace, KeptValues, PutsIn, PutsForGoing, PutsForOne, going, kept, last_entry, len_after, same_key, value_for}
pub use Rattle.wi_cache.specs.Hashed.{same_key_means}
pub use Rattle.wi_cache.specs.declared.key.Key.{Key}
pub use Rattle.wi_engine.proofs.Ledger.{at_most_weaken, spends_at_most, spends_err, spends_then, spends_weaken, where_then}
pub use Rattle.wi_engine.proofs.Places.{known_still, known_then, none_went}
pub use Rattle.wi_engine.specs.Inner.Frames.{MayBeRead}
pub use Rattle.wi_engine.specs.Inner.Keeps.{HasFound, Keeps}
pub use Rattle.wi_engine.specs.Inner.MemoState.{IsMemoOf, IsComplete, MemoState}
pub use Rattle.wi_engine.specs.Inner.Remembered.{OneQuestion, question_state, remembered}
pub use Rattle.wi_engine.specs.Inner.Saving.{GivesUpWhenFull, IsValuedAnew, KeepsFound, NeedsNoEvaluation, TakesNoMore, TakesPlaces, WhereSpace}
pub use Rattle.wi_engine.specs.Inner.Plans.{IsPlanOf, IsUnkept, MayBeFollowed}
pub use Rattle.wi_engine.specs.Inner.Spends.{IsSameBeside, Saved, Spends, SpendsAtMost}
pub use Rattle.wi_functions.specs.Counts.{Counts}
pub use Rattle.wi_functions.specs.Meaning.{zero_for_empty}
pub use Rattle.wi_graph.proofs.Agreement.{circular_same}
pub use Rattle.wi_graph.proofs.BelowSteps.{visited_one}
pub use Rattle.wi_graph.proofs.Cones.{cone_closed, cone_has, cone_stays, outside_circular, outside_content, outside_reaches}
pub use Rattle.wi_graph.proofs.EdgeLemmas.{content_of-with, edges_follow}
pub use Rattle.wi_graph.proofs.GraphSteps.{same_reaches}
pub use Rattle.wi_graph.proofs.Graphs.{stripped}
pub use Rattle.wi_graph.proofs.LatestLaws.{edit_owes, latest_is_among, latest_of_cone, none_is_dirty, one_is_latest, dirty_stays, flushes_one, flushing_begins}
pub use Rattle.wi_graph.proofs.ReachTest.{in_cone_true, reaches_true, true_in_cone, true_reaches}
pub use Rattle.wi_graph.proofs.SetSteps.{in_back, in_front, in_last}
pub use Rattle.wi_graph.proofs.Tests.{clash}
pub use Rattle.wi_graph.proofs.Walks.{formula_cell, reader_formula, same_cell}
pub use Rattle.wi_graph.specs.Circular.{circular}
pub use Rattle.wi_graph.specs.Edges.{AreEdgesOf, Edges, Staging, areas_at, areas_in, brought, edges_after, sheet_after, staging, with_areas}
pub use Rattle.wi_graph.specs.Inner.Below.{has_visited}
pub use Rattle.wi_graph.specs.Latest.{AreDirty, IsLatest, IsDirty, IsFlushing, IsUnread, latest_among, numbered}
pub use Rattle.wi_graph.specs.Reach.{IsInCone, Reaches, SameOff, Walks, in_cone, reaches}
pub use Rattle.wi_graph.specs.Watched.{IsClosedUp}
pub use Rattle.wi_parser.specs.Sheet.{Sheet, cells_with_formula, content_of, has_formula, put_all, with_content}
pub use Rattle.wi_parser.specs.declared.content.Content.{Content}
pub use Rattle.wi_parser.specs.declared.content.Content.TheVariants.{Constant, Formula}
pub use Rattle.wi_propagate.specs.Inner.Cones.{AreAllCones}
pub use Rattle.wi_propagate.specs.Inner.Entries.{MayBeAsked}
pub use Rattle.wi_propagate.specs.Inner.Keeping.{AreCarriedCones, ArePlaced, HasGeneration, IsKeepingRight, Keeping, TakesOver, begun, keeping, kept_sheet, state_in, value_in, values_in}
pub use Rattle.wi_propagate.specs.Inner.Stamps.{AreAllStamped, AreKeptUp, AreStamped, HeadedNumbers, IsHeadOf, IsHeaded, Stamps, renewed, renewed_all, stamped_in}
unfoldable pub use Rattle.wi_propagate.specs.Inner.Stamps.{flushed}
pub use Rattle.wi_propagate.specs.Inner.Planned.{ArePlans}
pub use Rattle.wi_propagate.specs.Inner.Owes.{Owes}
pub use Rattle.wi_propagate.specs.Inner.Flushing.{second_cells}
pub use Rattle.wi_propagate.specs.KeptSheet.{Generations, HasSpaceFor, IsAtHand, emptied, IsEdit, KeepsAll, KeepsNoMore, KeepsOld, KeepsWhileSpace, KeptSheet, generation_in, gone, is_kept, key_in, stands, unkept}
pub use Rattle.wi_propagate.specs.Right.{AreKeptRight, AreRight, IsKeptFor, IsRight}
pub use Rattle.wi_propagate.specs.declared.carried.Carried.{Carried}
pub use Rattle.wi_sheet.proofs.Bounds.{bound_not_felt}
pub use Rattle.wi_sheet.proofs.CaseCosts.{left_is_unkept, never_fall-same, one_less_left, spent_nothing, spent_price, spent_unkept}
pub use Rattle.wi_sheet.proofs.Cases.{demands_itself, different_closed}
pub use Rattle.wi_sheet.proofs.CellsAhead.{all_ahead, cells_ahead, fewer, none_ahead, occupied, one_ahead}
pub use Rattle.wi_sheet.proofs.Cones.{outside_shown, outside_shown_same, outside_unmoved, outside_value}
pub use Rattle.wi_sheet.proofs.Limits.{demand_by_replacements}
pub use Rattle.wi_sheet.proofs.Locality.{others_do_not_count, value_same}
pub use Rattle.wi_sheet.proofs.Marks.{formulas_and_cells, others_unmoved}
pub use Rattle.wi_sheet.proofs.Members.{IsIn}
pub use Rattle.wi_sheet.proofs.Overrides.{or_none, put_alone, reaching_in_order, reaching_suffices, replaced_world, same_for_reached, what_if_in_order, with_what_if_value}
pub use Rattle.wi_sheet.proofs.PlainCells.{plain_cell, put_cell}
pub use Rattle.wi_sheet.proofs.PutOrders.{left_there, put_there}
pub use Rattle.wi_sheet.proofs.Puts.{plain}
pub use Rattle.wi_sheet.proofs.RestsUnder.{rests_stay}
pub use Rattle.wi_sheet.proofs.SettledTables.{all_more, rests_more, what_if_more}
pub use Rattle.wi_sheet.proofs.Steps.{put_circular_back, put_not_circular, reads_circular, shown_circular, shown_value, value_step}
pub use Rattle.wi_sheet.proofs.TableEntries.{cells_open, entry_circular, entry_has, entry_shown, none_circular, table_closed, test_of_cells}
pub use Rattle.wi_sheet.specs.CellValue.{cell_value}
pub use Rattle.wi_sheet.specs.Inner.Asked.{asks_circular, replacements}
pub use Rattle.wi_sheet.specs.Demand.{Case, case_of, demanded, reaching, same_case, with_what_if}
pub use Rattle.wi_sheet.specs.Inner.Spending.{HasCase, HasEntry, HasReplacing, IsClosed, SpentOn}
pub use Rattle.wi_sheet.specs.Settled.{IsSettled, IsWhatIfSettled}
pub use Rattle.wi_sheet.specs.Shown.{shown}
pub use Rattle.wi_sheet.specs.TableEntry.{entry_demanded, table_entry}
pub use Rattle.wi_sheet.specs.Unmoved.{IsUnmoved}
pub use Rattle.wi_store.specs.Store.{Applies, Stored, applied, change_without_empty, edited, without_empty}
unfoldable pub use Rattle.wi_store.specs.Store.{accepted}
pub use Rattle.wi_store.specs.declared.fault.StoreFault.{StoreFault}
pub use Rattle.wi_store.specs.declared.fault.StoreFault.TheVariants.{EditLimit, Full, Memory}
pub use Rattle.wi_tiles.specs.Entries.{CellEntries, get}
pub use Rattle.wi_values.proofs.Keys.{lone_key}
pub use Rattle.wi_values.proofs.Listed.{has_at, has_one_more}
pub use Rattle.wi_values.proofs.Lists.{sum_ones}
pub use Rattle.wi_values.proofs.Lookups.{found-insert, found-without}
pub use Rattle.wi_values.proofs.Order.{is_at-eq, is_itself, turn_test}
pub use Rattle.wi_values.proofs.Outcomes.{on_err, on_ok}
pub use Rattle.wi_values.proofs.Replacements.Same.{same_replacements_Decides}
pub use Rattle.wi_values.proofs.Small.{or_new}
pub use Rattle.wi_values.proofs.Within.{places_left}
pub use Rattle.wi_values.specs.Address.{columns, is_one_of, rows}
pub use Rattle.wi_values.specs.Replacements.{same_replacements}
pub use Rattle.wi_values.specs.declared.replacement.Replacement.{Replacement}
pub use Rattle.wi_values.specs.declared.value.ErrorKind.TheVariants.{Circular}
pub use Rattle.wi_values.specs.declared.value.Value.{Value}
pub use Rattle.wi_values.specs.declared.value.Value.TheVariants.{Fault}
pub use Rattle.wi_worlds.specs.Reached.{AddsOf, ReachTable, is_known, is_reached_by, reached_by}
