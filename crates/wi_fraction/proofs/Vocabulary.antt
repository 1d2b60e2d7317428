-- The words of the library, of the crates below and of this crate's definitions that its proofs are written in.
pub use Rattle.std.proofs.Common.{Err, FitsSigned, IfOk, Ok, OnErr, OnOk, Result, String, ap, arith, drop-cons, get_or, if◌then◌else◌, inl, inr, is_ok, ok_or, rules, string_bytes, subst, sym, tests, ◌||◌, ◌∙◌}
pub use Rattle.std.proofs.Math.ListN.{get_or-append}
pub use Rattle.std.proofs.Math.Nat.{add-mul, add-mul-div_right, div-add-mod, div-add-mod', div-div-eq-div-mul, div-le_self, div-lt_iff_lt-mul, div-mul-le_self, div-mul_cancel, div-one, div_self, dvd-mul_left, dvd-mul_right, dvd-mul_right_of_dvd, dvd_of_mul-dvd-mul_right, dvd_trans, eq-one_of_dvd-one, le-div_iff_mul-le, le_trans, lt-div-mul-add, lt_of_mul-lt-mul_right, mod-eq_of_lt, mod-lt, mul-add-mod_self_right, mul-div-mul_right, mul-div_cancel, mul-dvd-mul, mul-dvd-mul_right, mul-le-mul_left, mul-le-mul_right, mul-lt-mul_of_pos_right, mul-mul-mul_comm, mul-one, mul-pos, mul_assoc, mul_comm, mul_right_comm, one-dvd, one-le-pow, one-mul, pos_of_dvd_of_pos, pow-le-pow_left, pow-le-pow_right, pow-suc, pow-succ', pow-zero, zero-div, zero-mul}
pub use Rattle.std.proofs.Math.Seq.{drop-append_seam, drop-length, get_or-append_right, take-append_seam}
pub use Rattle.std.proofs.Transfers.{starts_with_length, starts_with_of_append, starts_with_trans}
pub use Rattle.std.proofs.lemmas.Bool.{cases_lt, eqb-true}
pub use Rattle.std.proofs.lemmas.Bool.Decides.{nat_tests}
pub use Rattle.std.proofs.lemmas.Fmt.{decimal_digit, decimal_is_IsNumeral_wide, decimal_step_wide}
pub use Rattle.std.proofs.lemmas.Grind.{common_steps, pow_more, reverse_onto}
pub use Rattle.std.proofs.lemmas.Int.{ints, to_z-of_z, unsigned_abs-mul}
pub use Rattle.std.proofs.lemmas.Int.Digits.{digits_push, digits_value-lt, digits_value_more, digits_value_push}
pub use Rattle.std.proofs.lemmas.List.{append-nil, append_assoc, length-append, length-drop, map-append, take-append-drop, take-append-le, take_all, take_rest}
pub use Rattle.std.proofs.lemmas.List.Folds.{length-prefix_len}
pub use Rattle.std.proofs.lemmas.Nat.{div-mul-add, le-div, pow-add}
pub use Rattle.std.proofs.lemmas.Nat.Gcd.{IsGcd-from_mod, IsGcd-from_zero, dvd_of_mod-eq-zero, dvd_refl, le_of_dvd, mod-eq-zero_of_dvd}
pub use Rattle.std.proofs.lemmas.Result.{IfOk-from_err}
pub use Rattle.std.proofs.lemmas.Str.{IsCharBoundary-from_ascii, IsCharBoundary-from_take, IsUtf8-string_bytes}
pub use Rattle.std.proofs.lemmas.Str.Parse.{IsNumeralModel, digit_at, digits_value-take-le, numerals_by_value, tells_all_ascii_digits}
pub use Rattle.std.specs.Char.{digit_value, is_ascii_digit, to_ascii_uppercase}
pub use Rattle.std.specs.Cmp.{int_cmp_is, int_ranks, nat_cmp_is, ranks}
pub use Rattle.std.specs.Fmt.{decimal}
pub use Rattle.std.specs.Int.{IsInRange, cast_signed, cast_unsigned, int_div_euclid, int_pow, w128, ◌∣◌}
pub use Rattle.std.specs.Io.{StartsWith}
pub use Rattle.std.specs.List.{list_all, prefix_len, range_with_len}
pub use Rattle.std.specs.Ordering.{MatchOrdering, int_cmp, int_eq, nat_cmp}
pub use Rattle.std.specs.Prelude.{Bool, List, None, Option, Some, [], cond, drop, false, int_div, int_lt, length, map, nat_eq, nat_le, nat_lt, neg_ℤ, negsuc, not, option_and_then, pos, refl, reverse, slice_index, suc, take, true, unsigned_abs, unwrap_or, zero, ℕ, ℤ, ◌%◌, ◌&&◌, ◌*ℤ◌, ◌*◌, ◌++◌, ◌+ℤ◌, ◌+◌, ◌-ℤ◌, ◌-◌, ◌/◌, ◌<ℤ◌, ◌<◌, ◌==◌, ◌^◌, ◌∷◌, ◌≡◌, ◌≢◌, ◌≤ℤ◌, ◌≤◌, ◌⊎◌}
pub use Rattle.std.specs.Str.{IsCharBoundary, IsUtf8, all_ascii_digits, byte}
pub use Rattle.std.specs.Str.Parse.{AllDigits, IsNumeral, digits_value, digits_value_after, without_leading_plus}
pub use Rattle.std.specs.declared.alloc.Global.{Global}
pub use Rattle.std.specs.declared.cmp.Ordering.{Ordering}
pub use Rattle.std.specs.declared.cmp.Ordering.TheVariants.{Equal, Greater, Less}
pub use Rattle.wi_fraction.specs.Arithmetic.{fraction_of, power_of, product_of, quotient_of, times_ten_to}
unfoldable pub use Rattle.wi_fraction.specs.Arithmetic.{negated, sum_of}
pub use Rattle.wi_fraction.specs.Decimal.{IsUnsignedDecimal}
unfoldable pub use Rattle.wi_fraction.specs.Decimal.{decimal_text}
pub use Rattle.wi_fraction.specs.Gcd.{gcd}
pub use Rattle.wi_fraction.specs.Gcd.Laws.{dvd_gcd_mul, dvd_of_dvd-mul, gcd-one, gcd_comm, gcd_from_IsGcd, is_gcd, same_lowest}
pub use Rattle.wi_fraction.specs.Inner.Bounds.{bounded, int_bounded}
unfoldable pub use Rattle.wi_fraction.specs.Inner.Bounds.{sum_by_steps}
pub use Rattle.wi_fraction.specs.Inner.Halves.{from_halves}
unfoldable pub use Rattle.wi_fraction.specs.Inner.Places.{places_from}
pub use Rattle.wi_fraction.specs.Inner.Reading.{decimal_value, is_numeral, lowered, raised, read_quotient}
unfoldable pub use Rattle.wi_fraction.specs.Inner.Reading.{decimal_after, exponent_after, point_after, read, read_after, read_decimal, read_size, scaled_after, with_exponent}
pub use Rattle.wi_fraction.specs.Inner.Signs.{is_exponent_letter, sign_text}
pub use Rattle.wi_fraction.specs.Inner.Totals.{AreParts}
unfoldable pub use Rattle.wi_fraction.specs.Inner.Totals.{number_over}
pub use Rattle.wi_fraction.specs.Inner.Words.{number_in}
pub use Rattle.wi_fraction.specs.Laws.{DecimalsReadBack, HasFloor, IsExact, IsGreatestNotAbove, IsLeastNotBelow, IsNearest, IsRounded, NotAbove, NotBelow, ReadsBack, ReadsWhatIsSpelled, ReadsWhatIsWritten, ShowsFewestPlaces, distance}
pub use Rattle.wi_fraction.specs.Number.{IsNumber, Number, max_size, number_at, with_minus}
unfoldable pub use Rattle.wi_fraction.specs.Number.{number_of}
pub use Rattle.wi_fraction.specs.Number.Laws.{abs-neg, number_at-is, number_at-none, number_at-some, same_number}
pub use Rattle.wi_fraction.specs.Order.{cross_cmp}
unfoldable pub use Rattle.wi_fraction.specs.Order.{same_parts}
pub use Rattle.wi_fraction.specs.Order.Integers.{by_rank, int_irrefl, mul-mul, mul_below, neg-pos-mul, turn}
pub use Rattle.wi_fraction.specs.Rounding.{rounded_size}
unfoldable pub use Rattle.wi_fraction.specs.Rounding.{floored, rounded}
pub use Rattle.wi_fraction.specs.Spelled.{IsFractionText, IsSign, SpellsFraction, SpellsSize, WritesDigits, minus, no_sign, plain, plus, point, pointed, slash, spells}
unfoldable pub use Rattle.wi_fraction.specs.Text.{padded, places, size_text, text_of}
pub use Rattle.wi_fraction.specs.Written.{IsDecimalText, WritesNumber, WritesExponent, none, power, writes}
pub use Rattle.wi_fraction.specs.declared.rounding.Mode.{Mode}
pub use Rattle.wi_fraction.specs.declared.rounding.Mode.TheVariants.{Away, HalfAway, Toward}
