use Rattle.wi_cli.proofs.Vocabulary.{◌≡◌, ◌∙◌, ◌+◌, ◌<◌, ◌≤◌, ℕ, Bool, true, false, ◌&&◌, min, drop, length, Some, get_or, refl, sym, ap, arith, nat_tests, digit_value, is_ascii_digit, all_ascii_digits, digits_value, digits_value_after, digits_step, Bytes, at_drop_more, at_drop_all}
use Rattle.wi_cli.proofs.csv_line.number_of.Goals as goal

is_digit : (b d : ℕ) → d ≡ b → digit_value d < 10 → is_ascii_digit b ≡ true
is_digit b d e h = grind (arith, nat_tests)

no_digit : (b d : ℕ) → d ≡ b → (digit_value d < 10 → ⊥) → is_ascii_digit b ≡ false
no_digit b d e h = grind (arith, h, nat_tests)

next : (ds : Bytes) (i : ℕ) (b : Bool) → i < length ds → is_ascii_digit (get_or ds i 0) ≡ b → all_ascii_digits (drop i ds) ≡ (b && all_ascii_digits (drop (i + 1) ds))
next ds i b below e = at_drop_more all_ascii_digits ds i 0 below ∙ ap (λ (x : Bool). x && all_ascii_digits (drop (i + 1) ds)) e

pub loop-c-preserved : goal.loop-c-preserved
loop-c-preserved c =
    let is = c.in_ok-digit.ensures.value in
    let d : c.in_ok-digit.digit ≡ digit_value (get_or c.args.digits.now c.loop-c.c-index 0) = is.1 ∙ ap digit_value c.from.ensures in (
      omega arith,
      digits_step _ c.loop-c.number c.in_ok-digit.digit _ c.loop-c.c-index c.args.digits.now c.loop-c-test.true d c.min-number.ensures ∙ c.loop-c.invariant.1,
      sym (next c.args.digits.now c.loop-c.c-index true c.loop-c-test.true (is_digit _ _ c.from.ensures is.0)) ∙ c.loop-c.invariant.2,
    )

pub returns-in_err-digit : goal.returns-in_err-digit
returns-in_err-digit c =
    let some : all_ascii_digits c.args.digits.now ≡ false =
    sym c.loop-c.invariant.2 ∙ next c.args.digits.now c.loop-c.c-index false c.loop-c-test.true (no_digit _ _ c.from.ensures c.in_err-digit.ensures.value) in
    c.from_residual.ensures ∙ rw some refl

pub returns : goal.returns
returns c =
    let past : length c.args.digits.now ≤ c.loop-c.c-index = omega (arith, c.loop-c-test.false) in
    let all : all_ascii_digits c.args.digits.now ≡ true = sym c.loop-c.invariant.2 ∙ at_drop_all all_ascii_digits c.args.digits.now c.loop-c.c-index past in
    let value : min c.loop-c.number 1000001 ≡ min (digits_value 10 c.args.digits.now) 1000001 =
    ap (λ (n : ℕ). min n 1000001) (sym (at_drop_all (digits_value_after 10 c.loop-c.number) c.args.digits.now c.loop-c.c-index past)) ∙ c.loop-c.invariant.1 in
    let least : c.loop-c.number ≡ min c.loop-c.number 1000001 = omega (arith, c.loop-c.invariant.0) in
    rw all (ap (λ (n : ℕ). Some n) (least ∙ value))
