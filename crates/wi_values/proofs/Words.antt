-- The words of the library, of the crates below and of this crate's definitions that its proofs are written in.
pub use Rattle.std.proofs.Common.{All, Bool, Err, IfSome, List, None, Ok, OnErr, OnOk, Option, Result, Some, [], ap, append-nil, append_assoc, arith, cond, drop, eq-eqb, false, filter, get_or, if◌then◌else◌, inl, inr, length, length-append, map, max, min, nat_le, nat_lt, not, ok_or, refl, rules, set, subst, suc, sum_by, sym, take, tests, true, unwrap_or, zero, ℕ, ⊎_elim, ◌%◌, ◌&&◌, ◌*◌, ◌++◌, ◌+◌, ◌-◌, ◌/◌, ◌<◌, ◌==◌, ◌^◌, ◌↔◌, ◌∙◌, ◌∷◌, ◌≡◌, ◌≢◌, ◌≤◌, ◌||◌, ◌⊎◌}
pub use Rattle.std.proofs.Math.Bool.{and_comm}
pub use Rattle.std.proofs.Math.Nat.{add-mul, add_assoc, mul-pos, mul_assoc, mul_right_comm, pow-le-pow_right, pow-suc}
pub use Rattle.std.proofs.Math.Seq.{drop-append_seam, map-set_same, take-append_seam}
pub use Rattle.std.proofs.lemmas.Bool.{and_from, and_parts, cases_eq, cases_lt, cases_order, eqb-true, le-leb, leb-true, ne_eqb, or_left, or_parts, or_right}
pub use Rattle.std.proofs.lemmas.Bool.Decides.{nat_tests}
pub use Rattle.std.proofs.lemmas.Cmp.{ranked}
pub use Rattle.std.proofs.lemmas.Fmt.{decimal_is_IsNumeral, decimal_nonempty, first_decimal}
pub use Rattle.std.proofs.lemmas.Grind.{common_steps}
pub use Rattle.std.proofs.lemmas.Iterator.{YieldsList-from_slice}
pub use Rattle.std.proofs.lemmas.Iterator.Search.{all_from_yields_List}
pub use Rattle.std.proofs.lemmas.List.{at_drop_more, drop_more, get_or-map, length-map, map-append, take-append-drop, take_more}
pub use Rattle.std.proofs.lemmas.List.Folds.{Any-from_list_any, list_any-append, list_any_at, list_any_more}
pub use Rattle.std.proofs.lemmas.List.Recursion.{and_push}
pub use Rattle.std.proofs.lemmas.List.Sorted.{searched}
pub use Rattle.std.proofs.lemmas.List.Sums.{sum_by-cons}
pub use Rattle.std.proofs.lemmas.Map.Entries.{lookup-filter-keys}
pub use Rattle.std.proofs.lemmas.Map.Keys.{IsStrictlyIncreasing-from_sorted, below_from_sorted, non_decreasing_from_sorted, sorted_from_strictly_increasing, sorted_head, sorted_tail}
pub use Rattle.std.proofs.lemmas.Map.Views.{any-filter_same}
pub use Rattle.std.proofs.lemmas.Slice.Eq.{bytes_eq-Decides, slice_eq-Decides}
pub use Rattle.std.specs.BTreeMap.{insert_entry, is_at}
pub use Rattle.std.specs.Char.{digit_value, is_ascii_alphabetic, is_ascii_digit, to_ascii_uppercase}
pub use Rattle.std.specs.Fmt.{decimal}
pub use Rattle.std.specs.List.{AllByRecursion, Any, Contains, list_all, list_any, prefix_len}
pub use Rattle.std.specs.List.Sorted.{IsBinarySearchResult, IsNonDecreasingBy, IsSearchInRange, IsStrictlyIncreasing, IsStrictlySortedBy}
pub use Rattle.std.specs.Map.{keys_of, lookup, remove_entry}
pub use Rattle.std.specs.Option.{SomeIff, option_or}
pub use Rattle.std.specs.Ordering.{match_ordering, nat_cmp, ordering_index}
pub use Rattle.std.specs.Prelude.{Decides, MatchResult, codes, slice_get, slice_index}
pub use Rattle.std.specs.Result.{is_ok}
pub use Rattle.std.specs.Str.{all_ascii_digits, bytes_eq}
pub use Rattle.std.specs.Str.Parse.{digits_value, digits_value_after}
pub use Rattle.std.specs.declared.cmp.Ordering.{Ordering}
pub use Rattle.std.specs.declared.cmp.Ordering.TheVariants.{Equal, Greater, Less}
pub use Rattle.wi_fraction.proofs.ReadsBack.{reads_back}
pub use Rattle.wi_fraction.proofs.Scanning.{digits_same, own}
pub use Rattle.wi_fraction.proofs.Spelled.{reads_what_is_spelled}
unfoldable pub use Rattle.wi_fraction.specs.Inner.Reading.{read, read_size}
pub use Rattle.wi_fraction.specs.Number.{Number}
pub use Rattle.wi_fraction.specs.Order.Laws.{numbers}
pub use Rattle.wi_values.specs.Address.{Area, column_of, columns, is_one_of, is_row_number, is_within, letters_value, place, rect_of, row_of, rows}
unfoldable pub use Rattle.wi_values.specs.Address.{address_text, column_letters, letters_within}
pub use Rattle.wi_values.specs.AddressReading.{cell_at}
unfoldable pub use Rattle.wi_values.specs.AddressReading.{address_at, read_address, read_rect}
pub use Rattle.wi_values.specs.Import.{max_text}
pub use Rattle.wi_values.specs.Imported.{IsImported, IsWords, SpellsNumber, a_number, a_text, a_truth_value, too_long}
pub use Rattle.wi_values.specs.Inner.Import.{field_value, number_or, words_value}
unfoldable pub use Rattle.wi_values.specs.Inner.Import.{imported}
pub use Rattle.wi_values.specs.Inner.Same.{texts}
pub use Rattle.wi_values.specs.Laws.{AddressesReadBack, CornersMayTurn, NumbersReadBack}
pub use Rattle.wi_values.specs.Replacements.{IsInOrder, as_map, as_replacements, last_for, overridden, replaced, same_replacements}
pub use Rattle.wi_values.specs.Value.{logical_name}
unfoldable pub use Rattle.wi_values.specs.Value.{shown_text}
pub use Rattle.wi_values.specs.declared.address.AddressFault.TheVariants.{Outside}
pub use Rattle.wi_values.specs.declared.replacement.Replacement.{Replacement}
pub use Rattle.wi_values.specs.declared.value.Value.{Value}
pub use Rattle.wi_values.specs.declared.value.Value.TheVariants.{Empty, Logical, Text}
