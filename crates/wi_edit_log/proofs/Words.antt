-- The words of the library, of the crates below and of this crate's definitions that its proofs are written in.
pub use Rattle.std.proofs.Common.{Bool, IfSome, List, None, Option, Some, [], ap, arith, drop, false, filter, get_or, inl, inr, length, ltb-true, map, max, min, not, refl, rules, subst, suc, sym, take, true, zero, ℕ, ◌&&◌, ◌++◌, ◌+◌, ◌-◌, ◌<◌, ◌==◌, ◌||◌, ◌∙◌, ◌∷◌, ◌≡◌, ◌≤◌, ◌⊎◌}
pub use Rattle.std.proofs.Math.Bool.{and-false, and-or_distrib_left, and-or_distrib_right, and-true, and_comm}
pub use Rattle.std.proofs.Math.Nat.{le_trans}
pub use Rattle.std.proofs.lemmas.Bool.{and_from, and_left, and_parts, both_ways, cases_eq, cases_lt, eq-eqb, eqb-true, le-leb, le-ltb, leb-true, lt-ltb, ne_eqb, or_cases, or_left, or_right}
pub use Rattle.std.proofs.lemmas.Grind.{common_steps}
pub use Rattle.std.proofs.lemmas.List.{drop-append-le, drop-map, drop_all, drop_min, drop_more, get_or-take, get_or_append_left, get_or_default, get_or_push, length-append, length-take, length-take-le, length_push, take-append-drop, take-append-le, take_all, take_rest}
pub use Rattle.std.proofs.lemmas.List.Folds.{list_any-append, list_any_more}
pub use Rattle.std.proofs.lemmas.List.Sorted.{IsPartitionPoint-from_clause, IsPartitionedBy-ltb}
pub use Rattle.std.proofs.lemmas.Result.{IfOk-from_err, err_from_is_err_and}
pub use Rattle.std.specs.Bool.{then_some}
pub use Rattle.std.specs.Cmp.Derive.{one_truth}
pub use Rattle.std.specs.List.{flat_map, fold, list_any, range_with_len, reduce}
pub use Rattle.std.specs.List.Sorted.{IsNonDecreasingBy}
pub use Rattle.std.specs.Prelude.{if◌then◌else◌, nat_le, nat_lt}
pub use Rattle.wi_edit_log.specs.EditLog.{Entry, first_stale}
pub use Rattle.wi_edit_log.specs.Inner.Edits.{AreCounted, AreInRuns, IsCount, IsInRun, entries_in, entry_in, is_named_by_others, is_wanted_of_others}
pub use Rattle.wi_edit_log.specs.Inner.First.{IsFirst, in_both, in_each, in_one, is_stale}
pub use Rattle.wi_edit_log.specs.Inner.Narrow.{are_narrow}
pub use Rattle.wi_edit_log.specs.Inner.Noted.{AreNoted, IsKept, NotesMore, before_of, is_named_narrowly, is_named_widely, is_noted_stale_of, is_wanted_narrowly, is_wanted_noted_stale, is_wanted_widely, last_after, last_of, names_for, names_narrowly, names_widely}
pub use Rattle.wi_edit_log.specs.Inner.Rising.{are_rising, begins_from, rise_from}
pub use Rattle.wi_edit_log.specs.declared.edit.Edit.{Edit}
pub use Rattle.wi_edit_log.specs.declared.noted.Last.{Last}
pub use Rattle.wi_values.proofs.Listed.{has-filter}
pub use Rattle.wi_values.proofs.Small.{any_in_range, max_at_most, max_below}
pub use Rattle.wi_values.proofs.Within.{column_of_place, column_within, fewer_places, places_left, row_of_place, within_between, within_from, within_parts}
pub use Rattle.wi_values.specs.Address.{Area, cells_of, cells_of_row, column_of, columns, is_one_of, is_within, is_within_one, place, row_of, rows}
pub use Rattle.wi_values.specs.Inner.Cells.{IsAtOrBefore, sooner}
