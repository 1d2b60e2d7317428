-- The words of the library, of the crates below and of this crate's definitions that its proofs are written in.
pub use Rattle.std.proofs.Common.{BTreeMap, Bool, Bor, Global, List, None, Option, Some, [], ap, arith, cond, false, filter, if◌then◌else◌, is_some, length, map, nat_eq, nat_le, not, refl, rules, subst, suc, sym, true, true≢false, zero, ℕ, ◌&&◌, ◌+◌, ◌-◌, ◌<◌, ◌==◌, ◌||◌, ◌∙◌, ◌∷◌, ◌≡◌, ◌≢◌, ◌≤◌}
pub use Rattle.std.proofs.Math.Bool.{or-false}
pub use Rattle.std.proofs.lemmas.Bool.{both_ways, false_from_ne_true, false≢true, leb-false, not-false, not_from_true, or_from, or_parts}
pub use Rattle.std.proofs.lemmas.Cmp.{nat_list_eq_equiv}
pub use Rattle.std.proofs.lemmas.List.{length-map}
pub use Rattle.std.proofs.lemmas.List.Sums.{count_by-le-length, length-filter}
pub use Rattle.std.proofs.lemmas.Map.Made.{length-le_from_is_member}
pub use Rattle.std.proofs.lemmas.Option.{none-some, same_Some}
pub use Rattle.std.proofs.lemmas.Result.{IfOk-weaker, on_ok_weaker}
pub use Rattle.std.proofs.lemmas.Slice.Eq.{bytes_eq-Decides}
pub use Rattle.std.specs.BTreeMap.{insert_entry, is_at}
pub use Rattle.std.specs.Cmp.Lexicographic.{pointwise}
pub use Rattle.std.specs.List.{AllByRecursion, AllZip, find, list_any}
pub use Rattle.std.specs.List.Sorted.{IsStrictlySortedBy}
pub use Rattle.std.specs.Map.{keys_of, lookup, remove_entry, values_of}
pub use Rattle.std.specs.Option.{option_copied, option_map}
pub use Rattle.std.specs.Ordering.{nat_cmp}
pub use Rattle.std.specs.Prelude.{codes}
pub use Rattle.std.specs.Rc.{rc_str_bytes}
pub use Rattle.std.specs.Set.{is_member}
pub use Rattle.std.specs.Str.{bytes_eq}
pub use Rattle.std.specs.declared.rc.RcStr.{RcStr}
pub use Rattle.wi_scenario_list.specs.Bases.{HasChains, IsChain, IsChainOf, based, based_on, ended, is_base, is_name_of, lacks, would_loop}
pub use Rattle.wi_scenario_list.specs.Inner.Chains.{effective}
unfoldable pub use Rattle.wi_scenario_list.specs.Scenarios.{chain}
pub use Rattle.wi_scenario_list.specs.Inner.Stored.{IsSame, base_of, stored, own_of, scenario_in, with_name}
pub use Rattle.wi_scenario_list.specs.Inner.Parts.{scenario_or_new, without_replacement}
pub use Rattle.wi_scenario_list.specs.Scenarios.{Scenario, chain_within, has_scenario, is_full, is_named, layered, max_replacements, max_scenarios, scenario_for, scenario_of, with_own, with_replacements, with_scenario, without_own, without_scenario}
pub use Rattle.wi_scenario_list.specs.declared.layer.Layer.{Layer}
pub use Rattle.wi_values.proofs.Order.{is_at-eq, turn_test}
pub use Rattle.wi_values.proofs.Replacements.InOrder.{as_map-as_replacements, as_replacements-as_map, order_from_entries}
pub use Rattle.wi_values.proofs.Replacements.Overriding.{overridden-nothing}
pub use Rattle.wi_values.specs.Address.{place}
pub use Rattle.wi_values.specs.Inner.Same.{same_text_itself}
pub use Rattle.wi_values.specs.Replacements.{IsInOrder, as_map, as_replacements, is_replaced, overridden}
pub use Rattle.wi_values.specs.declared.replacement.Replacement.{Replacement}
pub use Rattle.wi_values.specs.declared.value.Value.{Value}
pub use Rattle.wi_values.specs.declared.value.Value.TheVariants.{Logical}
