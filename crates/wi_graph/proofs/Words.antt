-- The words of the library, of the crates below and of this crate's definitions that its proofs are written in.
pub use Rattle.smallvec.specs.SmallVec.{SmallVec}
pub use Rattle.std.proofs.Common.{Bool, Err, IfNone, IfOk, IfSome, IsSome, List, None, Ok, Option, Result, Some, [], add-one, ap, arith, cond, drop, drop-cons, eq-eqb, false, filter, get_or, inl, inr, is_some, length, ltb-true, map, max, min, nat_le, not, option_map, refl, rules, subst, suc, sym, take, take_all, true, true≢false, zero, ℕ, ◌&&◌, ◌++◌, ◌+◌, ◌-◌, ◌<◌, ◌==◌, ◌||◌, ◌↔◌, ◌∙◌, ◌∷◌, ◌≡◌, ◌≤◌, ◌⊎◌}
pub use Rattle.std.proofs.Math.Arith.{lt_of_le-ne}
pub use Rattle.std.proofs.Math.Bool.{and-false, and-true, or-false, or_assoc}
pub use Rattle.std.proofs.Math.Nat.{le_trans}
pub use Rattle.std.proofs.Math.Seq.{take-suc}
pub use Rattle.std.proofs.lemmas.Bool.{and_from, and_parts, cases_Bool, cases_lt, eqb-true, false_from_ne_true, le-leb, leb-true, not-true, not_from_false, or_cases, or_left, or_parts, or_right}
pub use Rattle.std.proofs.lemmas.Bool.Decides.{nat_tests}
pub use Rattle.std.proofs.lemmas.Grind.{common_steps}
pub use Rattle.std.proofs.lemmas.List.{drop_all, get_or_default, length-append, nil_from_length}
pub use Rattle.std.proofs.lemmas.List.Elements.{filter-append}
pub use Rattle.std.proofs.lemmas.List.Folds.{Any-from_list_any, list_any-append, list_any_at}
pub use Rattle.std.proofs.lemmas.List.Sorted.{IsNonDecreasingBy-from_default, IsPartitionPoint-from_clause, IsPartitionedBy-ltb}
pub use Rattle.std.proofs.lemmas.List.Sums.{AllPass-from_list_all, list_all-from_AllPass}
pub use Rattle.std.proofs.lemmas.Map.Keys.{sorted_head, sorted_tail}
pub use Rattle.std.proofs.lemmas.Map.Views.{any-filter_same}
pub use Rattle.std.proofs.lemmas.Result.{IfOk-from_err, IfOk-weaker, on_ok_weaker}
pub use Rattle.std.proofs.lemmas.Slice.Eq.{slice_eq-Decides}
pub use Rattle.std.specs.BTreeMap.{BTreeMap, insert_entry, is_at}
pub use Rattle.std.specs.BTreeMap.Range.{IsLeBy}
pub use Rattle.std.specs.BTreeSet.{BTreeSet, IsKeyRangeOf, IsUnchanged, Updates, btree_set_len, contains, difference}
pub use Rattle.std.specs.Bool.{Decides}
pub use Rattle.std.specs.Cmp.Derive.{one_truth}
pub use Rattle.std.specs.Cmp.Lexicographic.{pointwise}
pub use Rattle.std.specs.Global.{Vec}
pub use Rattle.std.specs.List.{AllByRecursion, Contains, find, list_all, list_any}
pub use Rattle.std.specs.List.Sorted.{IsNonDecreasing, IsPartitionPoint, IsStrictlyIncreasing, IsStrictlySortedBy}
pub use Rattle.std.specs.Map.{keys_of, lookup}
pub use Rattle.std.specs.Option.{is_none, option_eq, option_flatten, unwrap_or}
pub use Rattle.std.specs.Ordering.{nat_cmp}
pub use Rattle.std.specs.Prelude.{if◌then◌else◌, nat_lt}
pub use Rattle.std.specs.declared.cmp.Ordering.TheVariants.{Less}
pub use Rattle.std.specs.declared.ops.Bound.TheVariants.{Included}
pub use Rattle.wi_graph.specs.Circular.{sublists}
unfoldable pub use Rattle.wi_graph.specs.Circular.{circular}
pub use Rattle.wi_graph.specs.Edges.{AreEdgesOf, Edges, Staging, areas_at, areas_in, brought, edges_after, sheet_after, staging, with_areas}
pub use Rattle.wi_graph.specs.Inner.Below.{AreFound, HasAreas, HasRest, IsBelow, IsFinding, IsLookedAt, IsSearchingBelow, ReachesNot, ReadsApart, has_visited, is_ahead, is_passed}
pub use Rattle.wi_graph.specs.Inner.Bounds.{AreWithin}
pub use Rattle.wi_graph.specs.Inner.Changes.{Brings, IsEditCone, ReadsStay, areas_then, ceased_from}
pub use Rattle.wi_graph.specs.Inner.Rooms.{AreCyclic, AreInOrder, Coming, HasBoth, HasNoIdle, HasPairs, HasRooms, IsGraph, IsStaged, Rooms, areas_of, brought_to, coming_at, edges_in, edges_over, in_room, items_of, less_these, put_over, room_at, room_over, times, times_coming, times_in, with_room}
pub use Rattle.wi_graph.specs.Inner.Search.{AreEnqueued, GoesToReaders, HasAll, HasReaders, IsConeBeyond, IsConeOf, IsConeSet, IsLeast, IsListBeyond, beyond, missing}
pub use Rattle.wi_graph.specs.Inner.Staging.{HasThese, times_among}
pub use Rattle.wi_graph.specs.Inner.Stripping.{AreStripped, EachReadsOne, IsFree, IsTracking, IsWithin, KeepsReads, ReadsOne, Waits, items_there, reads_in, waiting_for, waits_for}
pub use Rattle.wi_graph.specs.Inner.Turning.{AreTurns, FindsCyclic, StandsApart, has_cyclic_outside, has_one, has_room_in, meets_one_of, reads_cell, reads_one_of, reads_outside, turned_by}
pub use Rattle.wi_graph.specs.Inner.Walks.{has_walk}
pub use Rattle.wi_graph.specs.Inner.Within.{IsAhead, IsBetween}
pub use Rattle.wi_graph.specs.Latest.{EditDirties, IsLatest, IsDirty, IsUnread, LatestByStep, LatestIsAmong, LatestOfCone, LatestRises, NoneIsDirty, OneIsLatest, DirtyStays, FlushesOne, FlushingBegins, latest_among, numbered}
pub use Rattle.wi_graph.specs.Reach.{AgreeFrom, IsInCone, Reaches, SameOff, Walks, in_cone, reaches_by}
unfoldable pub use Rattle.wi_graph.specs.Reach.{reaches}
pub use Rattle.wi_graph.specs.Watched.{IsClosedUp}
pub use Rattle.wi_graph.specs.declared.graph.Staged.{Staged}
pub use Rattle.wi_graph.specs.declared.turning.Turns.{Turns}
pub use Rattle.wi_parser.proofs.Rectangles.{reads_within}
pub use Rattle.wi_parser.specs.Reads.{content_reads}
pub use Rattle.wi_parser.specs.Sheet.{Sheet, cells_with_formula, constant, content_of, has_formula, with_content}
pub use Rattle.wi_parser.specs.declared.content.Content.{Content}
pub use Rattle.wi_parser.specs.declared.content.Content.TheVariants.{Constant, Formula}
pub use Rattle.wi_ranges.proofs.Exact.{same_is, same_self}
pub use Rattle.wi_ranges.specs.Bag.{Bag, HasOneLess, HasOneMore, IsRead, IsReader, count_of, is_same, pair_area, pair_for}
pub use Rattle.wi_ranges.specs.Inner.Rising.{as_set}
pub use Rattle.wi_ranges.specs.Inner.Telling.{Answers, Telling, telling}
pub use Rattle.wi_ranges.specs.declared.pair.RangePair.{RangePair}
pub use Rattle.wi_tiles.specs.Entries.{CellEntries, IsOrdered, get}
pub use Rattle.wi_tiles.specs.Rooms.{HasRoomFor, HoldsTheSame}
pub use Rattle.wi_values.proofs.Keys.{lone_key}
pub use Rattle.wi_values.proofs.Listed.{Contains-from_has, has-from_Contains, has_key, has_taken}
pub use Rattle.wi_values.proofs.Lists.{keeps_few, taken_more}
pub use Rattle.wi_values.proofs.Lookups.{cond_apart, found-insert, found-without}
pub use Rattle.wi_values.proofs.Order.{Ascends, Ascends-filter, Ascends-from_order, Ascends-insert, ComeAfter, at_earlier, at_itself, at_same, below_from_Less, is_at-eq, lookup_after, order-from_Ascends, same_entries, turn_test}
pub use Rattle.wi_values.proofs.Outcomes.{on_err}
pub use Rattle.wi_values.proofs.Small.{max_at_most, max_below}
pub use Rattle.wi_values.proofs.Within.{column_of_place, fewer_places, places_left, row_of_place, within_between, within_from, within_parts}
pub use Rattle.wi_values.specs.Address.{Area, column_of, columns, is_one_of, is_within, is_within_one, place, rect_of, row_of}
pub use Rattle.wi_values.specs.Inner.Cells.{IsAtOrBefore}
pub use Rattle.wi_values.specs.declared.value.Value.{Value}
pub use Rattle.wi_values.specs.declared.value.Value.TheVariants.{Empty, Fault, Logical, Number, Text}
