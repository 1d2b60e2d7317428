-- The words of the library, of the crates below and of this crate's definitions that its proofs are written in.
pub use Rattle.std.proofs.Common.{Bool, Err, IfOk, List, None, Ok, OnErr, OnOk, Option, Result, Some, [], ap, arith, cond, drop, false, filter, get_or, if◌then◌else◌, inr, length, map, not, refl, rules, set, subst, sym, true, ℕ, ⊎_elim, ◌&&◌, ◌*◌, ◌++◌, ◌+◌, ◌<◌, ◌==◌, ◌∙◌, ◌∷◌, ◌≡◌, ◌⊎◌}
pub use Rattle.std.proofs.Math.Bool.{and-false, and-true}
pub use Rattle.std.proofs.lemmas.Bool.{cases_order, le-leb}
pub use Rattle.std.proofs.lemmas.List.{append_assoc, drop-set-lt, drop_more}
pub use Rattle.std.proofs.lemmas.List.Elements.{All-cons, All-head, All-tail, filter_agree}
pub use Rattle.std.proofs.lemmas.Map.Keys.{IsStrictlyIncreasing-from_sorted}
pub use Rattle.std.proofs.lemmas.Result.{err_from_is_err_and}
pub use Rattle.std.specs.BTreeMap.{is_at}
pub use Rattle.std.specs.List.{All, AllByRecursion, find}
pub use Rattle.std.specs.List.Sorted.{IsStrictlyIncreasing}
pub use Rattle.std.specs.Map.{keys_of, lookup}
pub use Rattle.std.specs.Option.{is_some}
pub use Rattle.std.specs.Ordering.{nat_cmp}
pub use Rattle.std.specs.Prelude.{nat_le, nat_lt, unwrap_or}
pub use Rattle.std.specs.Result.{result_unwrap_or}
pub use Rattle.wi_parser.specs.Sheet.{Sheet, cells_with_formula, content_of, has_formula, with_content}
pub use Rattle.wi_parser.specs.declared.content.Content.{Content}
pub use Rattle.wi_store.specs.Inner.Admission.{admitted}
pub use Rattle.wi_store.specs.Inner.Rooms.{HaveContents, IsOccupied, Rooms, formula_cells, sheet_in}
pub use Rattle.wi_store.specs.Store.{Applies, Stored, change_without_empty, edited, is_ahead}
unfoldable pub use Rattle.wi_store.specs.Store.{accepted}
pub use Rattle.wi_store.specs.declared.fault.StoreFault.{StoreFault}
pub use Rattle.wi_store.specs.declared.fault.StoreFault.TheVariants.{EditLimit, Full, Memory}
pub use Rattle.wi_store.specs.declared.limits.Limits.{Limits}
pub use Rattle.wi_tiles.proofs.RoomChanges.{same_all, same_back, taken_back}
pub use Rattle.wi_tiles.proofs.RoomLemmas.{all_taken, no_rooms, room_of-tail}
pub use Rattle.wi_tiles.specs.Rooms.{AreBetweenEdits, HasNoVacancy, HoldsTheSame, RoomsAreInOrder, held_at, room_of, stood, taken, tells_none, with_all, with_all_back, with_one}
pub use Rattle.wi_values.proofs.Lookups.{found-insert, found-without}
pub use Rattle.wi_values.proofs.Order.{Ascends, Ascends-filter, Ascends-from_order, Ascends-insert, at_earlier, at_itself, at_later, first_there, lookup_after, same_entries}
pub use Rattle.wi_values.proofs.Outcomes.{on_err, on_ok}
pub use Rattle.wi_values.proofs.Within.{within_between}
pub use Rattle.wi_values.specs.Address.{Area, columns, is_within, rows}
