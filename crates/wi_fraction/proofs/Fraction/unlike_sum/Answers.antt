use Rattle.wi_fraction.proofs.Vocabulary.{rules, ◌∙◌, FitsSigned, w128, to_z-of_z}
use Rattle.wi_fraction.proofs.Steps.{multiple_pos, part_fits, sum_no_multiple, sum_no_first, sum_no_second, sum_no_total, sum_from_steps, with_minus-abs}
use Rattle.wi_fraction.proofs.Fraction.unlike_sum.Goals as goal

pub reduced-requires : goal.reduced-requires
reduced-requires c = multiple_pos _ _ _ _ c.gcd.ensures.value c.parts-a.result.is_number.above_zero c.parts-c.result.is_number.above_zero (rw c.divide.ensures at c.in_ok-multiple.ensures)

pub returns : goal.returns
returns c =
    let fits1 : FitsSigned w128 c.parts-a.result.numerator = search rules in
    let fits2 : FitsSigned w128 c.parts-c.result.numerator = search rules in
    let fits3 : FitsSigned w128 c.in_ok-first.first = search rules in
    let fits4 : FitsSigned w128 c.in_ok-second.second = search rules in
    let fits5 : FitsSigned w128 c.in_ok-total.total = search rules in
    rw (← c.parts-a.ensures, ← c.parts-c.ensures)
    (sum_from_steps _ _ c.in_ok-multiple.multiple c.in_ok-first.first c.in_ok-second.second c.in_ok-total.total _
    (rw (c.divide.ensures, c.gcd.ensures.value) at c.in_ok-multiple.ensures)
    (simp to_z-of_z at (rw c.divide-2.ensures at c.in_ok-first.ensures))
    (simp to_z-of_z at (rw c.divide-3.ensures at c.in_ok-second.ensures))
    (simp to_z-of_z at c.in_ok-total.ensures)
    (c.reduced.ensures ∙ rw c.unsigned_abs.ensures.value (simp (to_z-of_z, with_minus-abs))))

pub scaled-requires : goal.scaled-requires
scaled-requires c = part_fits _ c.in_ok-multiple.multiple c.parts-a.result.denominator _ c.in_ok-multiple.ensures c.divide-2.ensures

pub scaled-requires-2 : goal.scaled-requires-2
scaled-requires-2 c = part_fits _ c.in_ok-multiple.multiple c.parts-c.result.denominator _ c.in_ok-multiple.ensures c.divide-3.ensures

pub returns-in_err-multiple : goal.returns-in_err-multiple
returns-in_err-multiple c =
    rw (← c.parts-a.ensures, ← c.parts-c.ensures)
    (c.from_residual.ensures ∙ sum_no_multiple _ _ (rw (c.divide.ensures, c.gcd.ensures.value) at c.in_err-multiple.ensures))

pub returns-in_err-first : goal.returns-in_err-first
returns-in_err-first c =
    let fits1 : FitsSigned w128 c.parts-a.result.numerator = search rules in
    rw (← c.parts-a.ensures, ← c.parts-c.ensures)
    (c.from_residual-in_err-first.ensures ∙ sum_no_first _ _ c.in_ok-multiple.multiple
    (rw (c.divide.ensures, c.gcd.ensures.value) at c.in_ok-multiple.ensures)
    (simp to_z-of_z at (rw c.divide-2.ensures at c.in_err-first.ensures)))

pub returns-in_err-second : goal.returns-in_err-second
returns-in_err-second c =
    let fits1 : FitsSigned w128 c.parts-a.result.numerator = search rules in
    let fits2 : FitsSigned w128 c.parts-c.result.numerator = search rules in
    rw (← c.parts-a.ensures, ← c.parts-c.ensures)
    (c.from_residual-in_err-second.ensures ∙ sum_no_second _ _ c.in_ok-multiple.multiple c.in_ok-first.first
    (rw (c.divide.ensures, c.gcd.ensures.value) at c.in_ok-multiple.ensures)
    (simp to_z-of_z at (rw c.divide-2.ensures at c.in_ok-first.ensures))
    (simp to_z-of_z at (rw c.divide-3.ensures at c.in_err-second.ensures)))

pub returns-in_err-total : goal.returns-in_err-total
returns-in_err-total c =
    let fits1 : FitsSigned w128 c.parts-a.result.numerator = search rules in
    let fits2 : FitsSigned w128 c.parts-c.result.numerator = search rules in
    let fits3 : FitsSigned w128 c.in_ok-first.first = search rules in
    let fits4 : FitsSigned w128 c.in_ok-second.second = search rules in
    rw (← c.parts-a.ensures, ← c.parts-c.ensures)
    (c.from_residual-in_err-total.ensures ∙ sum_no_total _ _ c.in_ok-multiple.multiple c.in_ok-first.first c.in_ok-second.second
    (rw (c.divide.ensures, c.gcd.ensures.value) at c.in_ok-multiple.ensures)
    (simp to_z-of_z at (rw c.divide-2.ensures at c.in_ok-first.ensures))
    (simp to_z-of_z at (rw c.divide-3.ensures at c.in_ok-second.ensures))
    (simp to_z-of_z at c.in_err-total.ensures))
