use Rattle.wi_fraction.proofs.Vocabulary.{◌∙◌, sym, arith, decimal_value}
use Rattle.std.proofs.Common.{◌≡◌, None, [], false, drop, length, ◌-◌, ◌≤◌}
use Rattle.wi_fraction.proofs.Reading.{part_next, part_below_one, part_none}
use Rattle.wi_fraction.proofs.digits.Digits.decimal_part.Goals as goal

pub tenth-requires-clause-below_one : goal.tenth-requires-clause-below_one
tenth-requires-clause-below_one c = part_below_one c.args.self.now c.loop-i.i _ _ c.loop-i.part c.requires c.loop-i.invariant c.size.ensures c.denominator.ensures

pub returns-in_err-part : goal.returns-in_err-part
returns-in_err-part c =
    let ds = c.args.self.now in
    let inside : c.loop-i.i ≤ length c.args.self.now = omega arith in
    let none : None ≡ decimal_value false [] (drop (c.loop-i.i - 1) ds) = part_next ds c.loop-i.i _ _ _ c.loop-i.part None (omega arith) inside c.loop-i.invariant c.at.ensures.value c.size.ensures c.denominator.ensures (sym c.in_err-part.was ∙ c.tenth.ensures) in
    c.from_residual.ensures ∙ part_none ds (c.loop-i.i - 1) c.requires none

pub loop-i-preserved : goal.loop-i-preserved
loop-i-preserved c =
    let inside : c.loop-i.i ≤ length c.args.self.now = omega arith in
    part_next c.args.self.now c.loop-i.i _ _ _ c.loop-i.part _ (omega arith) inside c.loop-i.invariant c.at.ensures.value c.size.ensures c.denominator.ensures c.in_ok-part.ensures
