use Rattle.wi_fraction.proofs.Vocabulary.{◌∙◌, sym, arith}
use Rattle.std.proofs.Common.{◌<◌, length}
use Rattle.wi_fraction.proofs.Reading.{whole_next, whole_none}
use Rattle.wi_fraction.proofs.digits.Digits.whole_number.Goals as goal

pub returns-in_err-value : goal.returns-in_err-value
returns-in_err-value c =
    let inside : c.loop-i.i < length c.args.self.now = omega arith in
    c.from_residual.ensures ∙ whole_none c.args.self.now c.loop-i.i _ _ c.loop-i.invariant.0 inside c.at.ensures.value (sym c.in_err-value.was ∙ c.mul_add.ensures)

pub loop-i-preserved : goal.loop-i-preserved
loop-i-preserved c =
    let inside : c.loop-i.i < length c.args.self.now = omega arith in
    whole_next c.args.self.now c.loop-i.i _ _ _ c.loop-i.invariant.0 inside c.at.ensures.value c.in_ok-value.ensures
