-- The words of the library, of the crates below and of this crate's definitions that its proofs are written in.
pub use Rattle.std.proofs.Common.{Err, List, None, Ok, Option, Result, Some, [], ap, arith, cond, div-add-mod', drop, eqb, false, get_or, length, refl, rules, set, subst, suc, sym, take, true, zero, ℕ, ⊎_elim, ◌%◌, ◌*◌, ◌++◌, ◌+◌, ◌-◌, ◌/◌, ◌<◌, ◌^◌, ◌∙◌, ◌∷◌, ◌≡◌, ◌≤◌}
pub use Rattle.std.proofs.lemmas.Bool.{and_from, and_parts, cases_eq, cases_lt, false_from_ne_true, le-leb, leb-true, lt-ltb, or_cases, or_left, or_right, true≢false}
pub use Rattle.std.proofs.lemmas.Cmp.{eq_by_cmp_equiv, nat_cmp_total}
pub use Rattle.std.proofs.lemmas.Grind.{common_steps}
pub use Rattle.std.proofs.lemmas.List.{append_assoc, drop-set-lt, drop_all, drop_more, get_or-set_other, get_or-set_same, get_or_default, get_or_past, length-append, length-drop, length-map, length-set, take-set, take_more, take_more_set}
pub use Rattle.std.proofs.lemmas.List.Edits.{length-insert, length-remove}
pub use Rattle.std.proofs.lemmas.List.Elements.{All-append, All-cons, All-drop, All-head, All-nil, All-set, All-tail, All-take}
pub use Rattle.std.proofs.lemmas.List.FromFn.{fill_by_all, get_or-map-range_with_len, length-map-range_with_len}
pub use Rattle.std.proofs.lemmas.Map.{keys-set_value, lookup-set_value}
pub use Rattle.std.proofs.lemmas.Map.Made.{is_some-lookup}
pub use Rattle.std.proofs.lemmas.Nat.{and_le_l, and_mask, mod-pow-add, mod_below, one_shl, ones_cat, or_lt, pow_pos, shr_le}
pub use Rattle.std.proofs.lemmas.Nat.Bits.{bit_at-lt, bit_at-trailing_zeros, bit_at-zero, bit_at_and, bit_at_clear_other, bit_at_clear_same, bit_at_set_other, bit_at_set_same, shr_and_one}
pub use Rattle.std.proofs.lemmas.Option.{IfSome_then, slice_get-get_or, slice_get_past, slice_get_read}
pub use Rattle.std.proofs.lemmas.Result.{IfOk-at_ok}
pub use Rattle.std.specs.BTreeMap.{insert_entry, is_at}
pub use Rattle.std.specs.Borrow.{Bor}
pub use Rattle.std.specs.Int.{bit_at, bit_not, from_bool, trailing_zeros, w64}
pub use Rattle.std.specs.List.{All, AllByRecursion, insert, list_any, remove}
pub use Rattle.std.specs.Map.{keys_of, lookup, remove_entry, set_value}
pub use Rattle.std.specs.Option.{option_or}
pub use Rattle.std.specs.Ordering.{is_eq, match_ordering, nat_cmp}
pub use Rattle.std.specs.Prelude.{Bool, IfNone, IfOk, IfSome, IsSome, IsTrue, MatchOption, OnErr, OnOk, bit_and, bit_or, count_ones, filter, if◌then◌else◌, is_some, max, min, nat_le, nat_lt, not, option_map, slice_get, slice_index_or, slice_set, unwrap_or, ◌&&◌, ◌==◌, ◌||◌, ◌↔◌}
pub use Rattle.std.specs.Vec.{vec_len}
pub use Rattle.std.specs.declared.cmp.Ordering.TheVariants.{Less}
pub use Rattle.wi_tiles.specs.Entries.{IsOrdered, get}
pub use Rattle.wi_tiles.specs.Inner.Cells.{Band, Page, Pages, at_cell, is_ahead, path_of}
pub use Rattle.wi_tiles.specs.Inner.Changes.{IsKept}
pub use Rattle.wi_tiles.specs.Inner.Columns.{HasColumns, HasEach, IsBare, column_bit}
pub use Rattle.wi_tiles.specs.Inner.Entries.{entries_from, entries_of, map_of, with_entry}
unfoldable pub use Rattle.wi_tiles.specs.Inner.Entries.{cells}
pub use Rattle.wi_tiles.specs.Inner.Lines.{cell, slot}
pub use Rattle.wi_tiles.specs.Inner.Next.{HasNoneAbove, HasNoneFrom, IsNext, IsStart, band_at, in_band, in_page}
pub use Rattle.wi_tiles.specs.Inner.Parts.{Fits, HasSome, IsTrimmed, at_part, at_window, part_from, span}
pub use Rattle.wi_tiles.specs.Inner.Sorted.{IsFilled, IsGap, Rises, at_sorted, find, groups, key}
pub use Rattle.wi_tiles.specs.Inner.Tile.{at_bit, rank}
unfoldable pub use Rattle.wi_tiles.specs.Inner.Tile.{slots}
pub use Rattle.wi_tiles.specs.Inner.Turns.{LeadsOn}
pub use Rattle.wi_tiles.specs.Inner.Within.{AreBeside, AreOfBand, AreTiles, CountsFirst, GoesOn, HasBits, IsFirstLeft, IsInside, IsNextTile, IsPlace, IsRest, IsTurn, IsWalk, IsWhole, bit_of, cell_in, in_band_tile, in_tile, is_left, is_pending, line_of, lines_from, lines_of, lines_to, tile_at}
unfoldable pub use Rattle.wi_tiles.specs.Inner.Within.{filled}
pub use Rattle.wi_tiles.specs.Rooms.{AreBetweenEdits, AreInEdit, AreReadyFor, HasNoVacancy, HasRoomFor, HoldsTheSame, RoomsAreInOrder, VacantOnlyAt, held_at, room_of, stood, taken, with_all, with_all_back, with_one}
pub use Rattle.wi_values.proofs.Keys.{is_named, keys_of-set}
pub use Rattle.wi_values.proofs.Lists.{got_in_front, keeps_few}
pub use Rattle.wi_values.proofs.Lookups.{found-insert, found-without}
pub use Rattle.wi_values.proofs.Outcomes.{on_err}
pub use Rattle.wi_values.proofs.Order.{Ascends, Ascends-filter, Ascends-from_order, Ascends-insert, ComeAfter, ComeAfter-filter, at_itself, at_other, at_same, cmp_after, cmp_before, cmp_equal, first_there, is_at-eq, lookup_after, order-from_Ascends, same_entries, turn_test}
pub use Rattle.wi_values.proofs.Small.{one_at_most}
pub use Rattle.wi_values.proofs.Within.{within_from, within_parts}
pub use Rattle.wi_values.specs.Address.{Area, column_of, columns, is_one_of, is_within, place, row_of, rows}
pub use borrow.Author.Tests.{eq-eqb, eq-true, eqb-true, le-ltb, ltb-true, ne_eqb}
pub use mathlib.Core.Logic.{inl, inr, ◌≢◌, ◌⊎◌}
pub use native.Mathlib.Nat.{mod-eq_of_lt}
