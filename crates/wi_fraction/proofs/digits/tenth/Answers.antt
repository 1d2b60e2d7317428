use Rattle.wi_fraction.proofs.Vocabulary.{◌∙◌, arith, max_size}
use Rattle.std.proofs.Common.{◌<◌, ◌/◌}
use Rattle.wi_fraction.proofs.Tenths.{digit_times, tenth_divided, tenth_none}
use Rattle.wi_fraction.proofs.digits.tenth.Goals as goal

pub returns-then-rest-eq0 : goal.returns-then-rest-eq0
returns-then-rest-eq0 c = c.reduced.ensures ∙ tenth_divided c.args.digit c.args.n c.args.d c.if-rest-eq0.true

pub returns-then-d : goal.returns-then-d
returns-then-d c =
    let large : max_size / 5 < c.args.d = omega arith in
    tenth_none c.args.digit c.args.n c.args.d (omega arith) c.if-rest-eq0.false c.requires.lowest large

pub overflow_mul-digit : goal.overflow_mul-digit
overflow_mul-digit c = omega (arith, digit_times c.args.digit (c.args.d / 5) c.requires.digit)

pub overflow_add-digit : goal.overflow_add-digit
overflow_add-digit c = omega (arith, digit_times c.args.digit (c.args.d / 5) c.requires.digit)

pub overflow_mul-digit-2 : goal.overflow_mul-digit-2
overflow_mul-digit-2 c = omega (arith, digit_times c.args.digit c.args.d c.requires.digit)

pub overflow_add-digit-2 : goal.overflow_add-digit-2
overflow_add-digit-2 c = omega (arith, digit_times c.args.digit c.args.d c.requires.digit)

pub returns : goal.returns
returns c = c.reduced-2.ensures
