-- The words of the library, of the crates below and of this crate's definitions that its proofs are written in.
pub use Rattle.std.proofs.Common.{All, Bool, Err, IsTrue, List, None, Ok, Option, Some, [], ap, arith, cond, eqb, false, filter, get_or, inl, inr, length, length-append, nat_eq, nat_le, nat_lt, not, refl, rules, slice_get, subst, suc, sym, take, true, zero, ℕ, ⊎_elim, ◌&&◌, ◌*◌, ◌++◌, ◌+◌, ◌-◌, ◌<◌, ◌==◌, ◌^◌, ◌||◌, ◌↔◌, ◌∙◌, ◌∷◌, ◌≡◌, ◌≤◌, ◌⊎◌}
pub use Rattle.std.proofs.Math.Bool.{and-or_distrib_left, and-true, or-false, or_assoc}
pub use Rattle.std.proofs.Math.Nat.{add-mul, mul_assoc, pow-succ'}
pub use Rattle.std.proofs.lemmas.Bool.{and_from, and_left, and_parts, and_right, cases_Bool, cases_lt, cases_order, cond-false, cond-true, eq-eqb, eqb-true, false_from_ne_true, le-leb, le-ltb, leb-true, lt-leb, lt-ltb, ltb-false, ltb-true, or_cases, or_from, or_left, or_parts, or_right, true≢false}
pub use Rattle.std.proofs.lemmas.Bool.Decides.{nat_tests}
pub use Rattle.std.proofs.lemmas.Cmp.{on_total, then_total, tied_itself}
pub use Rattle.std.proofs.lemmas.Iterator.Adapters.{items_from_extend}
pub use Rattle.std.proofs.lemmas.Iterator.Consumers.{YieldsList-from_copied, YieldsList-from_rest}
pub use Rattle.std.proofs.lemmas.List.{append-nil, map-append, nil_from_length}
pub use Rattle.std.proofs.lemmas.List.Filters.{dedup_is}
pub use Rattle.std.proofs.lemmas.List.Folds.{list_any-append, list_any_more, list_any_none}
pub use Rattle.std.proofs.lemmas.List.Kept.{Contains-dedup_nat, Contains-from_dedup}
pub use Rattle.std.proofs.lemmas.List.Sorted.{Contains-permutation, IsPermutation-cons, IsPermutation-map, IsPermutation-middle, IsPermutation-swap_remove, IsPermutation-sym, IsPermutation-to_front, IsPermutation-trans, sum_by-IsPermutation}
pub use Rattle.std.proofs.lemmas.List.Sums.{fails_before_first, passes_at_first, sum_by-append, sum_by-cons, sum_by_push}
pub use Rattle.std.proofs.lemmas.Map.Keys.{IsDistinct-from_sorted, IsDistinct-head, IsDistinct-tail, IsStrictlyIncreasing-dedup, IsStrictlyIncreasing-from_sorted, sorted_from_strictly_increasing, sorted_head, sorted_tail}
pub use Rattle.std.proofs.lemmas.Map.Lookups.{CmpEqualImpliesEq, btree_set_from_contains, exact_pairs, exact_unsigned}
pub use Rattle.std.proofs.lemmas.Map.Steps.{set_value_same}
pub use Rattle.std.proofs.lemmas.Map.Views.{btree_set_contains_iff, tells_apart}
pub use Rattle.std.proofs.lemmas.Nat.{mul-le, pow_below, pow_pos}
pub use Rattle.std.proofs.lemmas.Option.{same_Some}
pub use Rattle.std.proofs.lemmas.Result.{IfOk-from_err, IfOk-weaker, on_err_weaker, on_ok_weaker}
pub use Rattle.std.specs.BTreeMap.{insert_entry, is_at}
pub use Rattle.std.specs.BTreeMap.Range.{range_contains}
pub use Rattle.std.specs.BTreeSet.{BTreeSet, IsKeyRangeOf, contains, insert_key}
pub use Rattle.std.specs.Bool.{⊤}
pub use Rattle.std.specs.Cmp.{IsTotalOrder, nat_cmp_total}
pub use Rattle.std.specs.Global.{Vec}
pub use Rattle.std.specs.List.{AllByRecursion, Contains, IsDistinct, dedup, list_any, position, position_or_len, sum_by, swap_remove}
pub use Rattle.std.specs.List.Sorted.{IsPermutation, IsStrictlyIncreasing, IsStrictlySortedBy}
pub use Rattle.std.specs.Map.{keys_of, lookup, remove_entry, set_value}
pub use Rattle.std.specs.Option.{is_some, unwrap_or}
pub use Rattle.std.specs.Ordering.{is_eq, is_gt, is_le, is_lt, match_ordering, nat_cmp, ordering_then}
pub use Rattle.std.specs.Prelude.{if◌then◌else◌}
pub use Rattle.std.specs.Set.{remove_key}
pub use Rattle.std.specs.declared.alloc.AllocError.{AllocError}
pub use Rattle.std.specs.declared.cmp.Ordering.{Ordering}
pub use Rattle.std.specs.declared.cmp.Ordering.TheVariants.{Equal, Greater, Less}
pub use Rattle.std.specs.declared.ops.Bound.TheVariants.{Included, Unbounded}
pub use Rattle.wi_ranges.specs.Bag.{Bag, HasOneLess, HasOneMore, IsReader, count_of, is_same, lowest_pair, pair_area, pair_cmp, pair_for, pieces_of, raise}
pub use Rattle.wi_ranges.specs.Blocks.{block, blocks_in, blocks_of, first_row, half_with, last_row, lies_within, meets}
unfoldable pub use Rattle.wi_ranges.specs.Blocks.{blocks_with, blocks_within}
pub use Rattle.wi_ranges.specs.Inner.Around.{IsAround, has_cell}
pub use Rattle.wi_ranges.specs.Inner.Index.{AreUpTo, AreWhole, Gains, HasPieces, IsIndexed, KeepsOtherPieces, LacksPieces, MayAdd, Piece, PutsPieces, TakesPieces, bag_of, block_cmp, has_piece, holds, is_among, is_at_block, is_one, is_piece, lowest, numbered_cmp, pair_reads, piece_cmp, piece_reads, reads_at, stands_first}
pub use Rattle.wi_ranges.specs.Inner.Rising.{StandApart, as_set, ends_before}
pub use Rattle.wi_ranges.specs.Inner.Singles.{HasPairMore, blocks_in_all, pairs_at, pairs_of, single_pair, with_pairs}
pub use Rattle.wi_ranges.specs.Laws.{BlocksAreFew, BlocksAreLargest, IsAligned, IsPartOf, RowsAreHeldOnce, times_held}
pub use Rattle.wi_ranges.specs.declared.block.Block.{Block}
pub use Rattle.wi_ranges.specs.declared.pair.Numbered.{Numbered}
pub use Rattle.wi_ranges.specs.declared.pair.RangePair.{RangePair}
pub use Rattle.wi_values.proofs.Listed.{has_key, has_nowhere, search_tells}
pub use Rattle.wi_values.proofs.Lists.{one_less, sum_ones}
pub use Rattle.wi_values.proofs.Order.{at_earlier, at_same, below_from_Less, cmp_after, cmp_before, is_at-eq, less_from_both, turn_test}
pub use Rattle.wi_values.proofs.Outcomes.{on_err}
pub use Rattle.wi_values.proofs.Within.{within_between}
pub use Rattle.wi_values.specs.Address.{Area, column_of, is_one_of, is_within, row_of, rows}
