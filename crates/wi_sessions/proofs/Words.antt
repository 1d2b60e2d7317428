-- The words of the library, of the crates below and of this crate's definitions that its proofs are written in.
pub use Rattle.indexmap.proofs.CallerLemmas.{index_map_len-with_value_at, insert_entry-new}
pub use Rattle.indexmap.specs.IndexMap.{IndexMap, insert_entry, set_value_at}
pub use Rattle.std.proofs.Common.{Bool, Err, Global, List, None, Ok, Option, Result, Some, [], ap, arith, cond, drop, eqb, false, filter, get_or, inl, inr, length, map, max, min, nat_eq, not, refl, rules, set, slice_get, string_bytes, subst, suc, sym, take, true, zero, ℕ, ⊎_elim, ◌%◌, ◌&&◌, ◌*◌, ◌++◌, ◌+◌, ◌-◌, ◌/◌, ◌<◌, ◌==◌, ◌^◌, ◌||◌, ◌∙◌, ◌∷◌, ◌≡◌, ◌≢◌, ◌≤◌, ◌⊎◌}
pub use Rattle.std.proofs.Math.Bool.{and-false, and-or_distrib_right, and-true, or-false, or-true, or_assoc}
pub use Rattle.std.proofs.lemmas.Bool.{and_parts, both_ways, cases_eq, cases_lt, cases_order, eq-eqb, eqb-true, false_from_ne_true, false≢true, le-ltb, lt-ltb, ne_eqb, or_cases, or_left, or_right, true≢false}
pub use Rattle.std.proofs.lemmas.Bool.Decides.{nat_tests}
pub use Rattle.std.proofs.lemmas.Grind.{common_steps}
pub use Rattle.std.proofs.lemmas.Iterator.Adapters.{position_from-zero}
pub use Rattle.std.proofs.lemmas.List.{append-nil, append_assoc, drop-append-le, drop_all, get_or-set_other, get_or-set_same, get_or_append_left, get_or_past, get_or_push, length-append, length-drop, length-map, length-set, map-append, map-set, nil_from_length, take_all}
pub use Rattle.std.proofs.lemmas.List.Elements.{All-filter, All-head, All-map, All-tail}
pub use Rattle.std.proofs.lemmas.List.Filters.{dedup_is}
pub use Rattle.std.proofs.lemmas.List.Folds.{list_all_at, list_any-append, list_any_more}
pub use Rattle.std.proofs.lemmas.List.FromFn.{fill_by_all, get_or-map-range_with_len, length-map-range_with_len, map-range_with_len_more}
pub use Rattle.std.proofs.lemmas.List.Kept.{Contains-dedup_nat, Contains-from_dedup}
pub use Rattle.std.proofs.lemmas.List.Sorted.{Contains-permutation, IsPermutation-sym}
pub use Rattle.std.proofs.lemmas.Map.Keys.{IsStrictlyIncreasing-dedup, sorted_from_strictly_increasing, sorted_head, sorted_tail}
pub use Rattle.std.proofs.lemmas.Map.Made.{is_some-lookup}
pub use Rattle.std.proofs.lemmas.Nat.Bits.{bit_at-lt, bit_at-zero, bit_at_above, bit_at_and, bit_at_not, bit_at_ones, bit_at_ones_above, bit_at_or, bit_at_set_other, bit_at_set_same, ones_shr, same_from_bits, shr_and_one}
pub use Rattle.std.proofs.lemmas.Option.{get_or_from_slice_get, slice_get-map}
pub use Rattle.std.proofs.lemmas.Result.{IfOk-from_err, IfOk-weaker, on_ok_weaker}
pub use Rattle.std.specs.BTreeMap.{is_at}
pub use Rattle.std.specs.Cmp.Derive.{one_truth}
pub use Rattle.std.specs.Cmp.Lexicographic.{pointwise}
pub use Rattle.std.specs.Int.{bit_at, bit_not, w64}
pub use Rattle.std.specs.Int.RustNames.{bit_or}
pub use Rattle.std.specs.List.{All, AllByRecursion, Contains, dedup, list_all, list_any, position, position_from, position_or_len, range_with_len, slice_set}
pub use Rattle.std.specs.List.Sorted.{IsPermutation, IsStrictlyIncreasing, IsStrictlySortedBy}
pub use Rattle.std.specs.Map.{keys_of, lookup, values_of}
pub use Rattle.std.specs.Option.{is_some, option_map, option_to_list}
pub use Rattle.std.specs.Ordering.{nat_cmp}
pub use Rattle.std.specs.Prelude.{IfOk, IfSome, IsErr, IsSome, MatchResult, OnErr, OnOk, bit_and, is_ok, nat_lt, unwrap_or}
pub use Rattle.std.specs.declared.alloc.AllocError.{AllocError}
pub use Rattle.std.specs.Rc.{rc_str_bytes}
pub use Rattle.std.specs.Result.{IsErrAnd, result_unwrap_or}
pub use Rattle.std.specs.Str.{bytes_eq}
pub use Rattle.std.specs.declared.cmp.Ordering.TheVariants.{Less}
pub use Rattle.std.specs.declared.rc.RcStr.{RcStr}
pub use Rattle.wi_sessions.specs.Inner.Cells.{GetRooms, GetsRoom, HasCleared, HasMade, MakesRooms, SamePending, at_cells, cells_in, cells_with, has_bit, is_in, is_staged, pending_in, vacant_in}
pub use Rattle.wi_sessions.specs.Inner.Details.{roster_in, session_in, with_name}
pub use Rattle.wi_sessions.specs.Inner.Unread.{AreKept, AreLookedAt, HasPlace, HavePlaces, is_unread}
pub use Rattle.wi_sessions.specs.Pending.{AllPending, list_at}
pub use Rattle.wi_sessions.specs.Pictures.{equality, same_value, value_in, with_changes, with_value}
unfoldable pub use Rattle.wi_sessions.specs.Pictures.{sheet_size}
pub use Rattle.wi_sessions.specs.Pictures.Laws.{AnyCells, PictureIsShown, Rises, every_cell}
pub use Rattle.wi_sessions.specs.Roster.{Roster, SameCells, is_pending_for_all, pending_of, vacant_of}
pub use Rattle.wi_sessions.specs.Sessions.{Session, has_session, index_of, new_session, told, using_scenario}
pub use Rattle.wi_sessions.specs.declared.details.Details.{Details}
pub use Rattle.wi_sessions.specs.declared.unread.Unread.{Unread}
pub use Rattle.wi_tiles.proofs.RoomChanges.{same_all}
pub use Rattle.wi_tiles.proofs.RoomLemmas.{no_rooms, same_filled}
pub use Rattle.wi_tiles.specs.Entries.{IsOrdered}
pub use Rattle.wi_tiles.specs.Rooms.{AreBetweenEdits, HasNoVacancy, HoldsTheSame, held_at, room_of, with_all, with_one}
pub use Rattle.wi_values.proofs.Listed.{Contains-from_has, has-filter, has-from_Contains, has_key}
pub use Rattle.wi_values.proofs.Lists.{filter_all}
pub use Rattle.wi_values.proofs.Lookups.{found-insert, found-without}
pub use Rattle.wi_values.proofs.Order.{Ascends, Ascends-filter, Ascends-from_order, Ascends-insert, ComeAfter, below_from_Less, is_at-eq, order-from_Ascends, same_entries, turn_test}
pub use Rattle.wi_values.proofs.Outcomes.{on_err, on_ok}
pub use Rattle.wi_values.proofs.Small.{or_new}
pub use Rattle.wi_values.specs.Address.{columns, is_one_of, rows}
pub use Rattle.wi_values.specs.declared.value.Value.{Value}
pub use Rattle.wi_values.specs.declared.value.Value.TheVariants.{Empty, Fault, Logical, Number, Text}
