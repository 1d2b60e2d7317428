-- The words of the library, of the crates below and of this crate's definitions that its proofs are written in.
pub use Rattle.std.proofs.Common.{Bool, Err, IfOk, List, MatchResult, None, Ok, Option, Result, Some, [], ap, arith, cond, drop, false, filter, get_or, if◌then◌else◌, inl, inr, is_some, length, map, nat_eq, refl, rules, subst, suc, sym, take, true, ℕ, ⊎_elim, ◌&&◌, ◌++◌, ◌+◌, ◌-◌, ◌<◌, ◌==◌, ◌||◌, ◌∙◌, ◌∷◌, ◌≡◌, ◌≤◌, ◌⊎◌}
pub use Rattle.std.proofs.lemmas.Bool.{and_parts, cases_lt, eqb-true, false≢true, ne_eqb, or_cases, or_left, or_right}
pub use Rattle.std.proofs.lemmas.Bool.Decides.{nat_tests}
pub use Rattle.std.proofs.lemmas.Cmp.{ranked}
pub use Rattle.std.proofs.lemmas.Grind.{common_steps}
pub use Rattle.std.proofs.lemmas.List.{nil_from_length}
pub use Rattle.std.proofs.lemmas.List.Edits.{get_or-insert_above, get_or-insert_at, get_or-insert_below, length-insert}
pub use Rattle.std.proofs.lemmas.List.Kept.{IsStrictlyIncreasing-filter}
pub use Rattle.std.proofs.lemmas.List.Sorted.{IsPermutation-insert, answers_always, list_any-IsPermutation}
pub use Rattle.std.proofs.lemmas.Map.Keys.{sorted_from_strictly_increasing}
pub use Rattle.std.proofs.lemmas.Result.{IfOk-from_err, IfOk-weaker, err_from_is_err_and, on_err_weaker, on_ok_weaker}
pub use Rattle.std.specs.BTreeMap.{BTreeMap, get}
pub use Rattle.std.specs.BTreeSet.{BTreeSet}
pub use Rattle.std.specs.List.{insert, list_all}
pub use Rattle.std.specs.List.Sorted.{IsBinarySearchResult, IsSearchInRange, IsStrictlyIncreasing}
pub use Rattle.std.specs.Map.{lookup}
pub use Rattle.std.specs.Option.{option_copied, option_map, option_or, unwrap_or}
pub use Rattle.std.specs.Ordering.{nat_cmp}
pub use Rattle.std.specs.Prelude.{All, IsSome}
pub use Rattle.wi_values.proofs.Listed.{found_by_key, has-filter}
pub use Rattle.wi_values.proofs.Lists.{keeps_few, one_less}
pub use Rattle.wi_values.proofs.Order.{is_at-eq, is_itself, turn_test}
pub use Rattle.wi_values.proofs.Replacements.Filtering.{order_of_filter, replaced-filter}
pub use Rattle.wi_values.proofs.Replacements.InOrder.{all_taken, one_more_taken, order_from_entries, same_from_replaced}
pub use Rattle.wi_values.proofs.Replacements.Overriding.{overridden-nothing, replaced-overridden}
pub use Rattle.wi_values.proofs.Replacements.Same.{same_replacements_Decides}
pub use Rattle.wi_values.specs.Replacements.{IsInOrder, as_map, last_for, overridden, replaced, same_replacements}
pub use Rattle.wi_values.specs.declared.replacement.Replacement.{Replacement}
pub use Rattle.wi_values.specs.declared.value.Value.{Value}
unfoldable pub use Rattle.wi_worlds.specs.Inner.Compared.{digest_of}
pub use Rattle.wi_worlds.specs.Inner.Picked.{and_then, picked, replacement_at}
pub use Rattle.wi_values.specs.Address.{is_one_of}
pub use Rattle.wi_worlds.specs.Reached.{AddsOf, ReachTable, Recorded, is_of, is_reached_by, reached_by, reached_cells, has_recorded, recorded_cells}
pub use Rattle.wi_worlds.specs.Reaching.{cone_has, is_reached}
