use Rattle.wi_fraction.proofs.Vocabulary.{◌∙◌, rules, tests, arith, FitsSigned, int_lt, nat_tests, w128, to_z-of_z, Number}
use Rattle.std.proofs.Common.{refl, ◌≡◌, pos, unsigned_abs, true, false}
use Rattle.wi_fraction.proofs.Wholes.{floor_up, floor_down, floored_from}
use Rattle.wi_fraction.proofs.Fraction.floor.Goals as goal

pub returns-then-n-ge0 : goal.returns-then-n-ge0
returns-then-n-ge0 c =
    let fits : FitsSigned w128 c.parts-n.result.numerator = search rules in
    let size : c.unsigned_abs-size.result ≡ unsigned_abs c.parts-n.result.numerator = c.unsigned_abs-size.ensures.value ∙ simp to_z-of_z refl in
    let upper : int_lt c.parts-n.result.numerator (pos 0) ≡ false = first_of (search (rules, tests), grind (arith, nat_tests)) in
    let x : Number = record { num = c.parts-n.result.numerator; den = c.parts-n.result.denominator; is_number = c.parts-n.result.is_number } in
    rw (← c.parts-n.ensures) (floored_from x c.whole.result (c.whole.ensures.numerator ∙ rw (c.divide.ensures, size) (floor_up c.parts-n.result.numerator c.parts-n.result.denominator upper)) c.whole.ensures.denominator)

pub returns : goal.returns
returns c =
    let fits : FitsSigned w128 c.parts-n.result.numerator = search rules in
    let size : c.unsigned_abs-size.result ≡ unsigned_abs c.parts-n.result.numerator = c.unsigned_abs-size.ensures.value ∙ simp to_z-of_z refl in
    let lower : int_lt c.parts-n.result.numerator (pos 0) ≡ true = first_of (search (rules, tests), grind (arith, nat_tests)) in
    let x : Number = record { num = c.parts-n.result.numerator; den = c.parts-n.result.denominator; is_number = c.parts-n.result.is_number } in
    rw (← c.parts-n.ensures) (floored_from x c.whole-2.result (c.whole-2.ensures.numerator ∙ rw (c.divide-2.ensures, size) (floor_down c.parts-n.result.numerator c.parts-n.result.denominator lower)) c.whole-2.ensures.denominator)
