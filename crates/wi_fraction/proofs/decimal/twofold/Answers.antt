use Rattle.wi_fraction.proofs.Vocabulary.{arith, mod-lt}
use Rattle.std.proofs.Common.{◌*◌}
use Rattle.wi_fraction.proofs.Decimals.{double_small, double_parts}
use Rattle.wi_fraction.proofs.decimal.twofold.Goals as goal

pub overflow_add-result : goal.overflow_add-result
overflow_add-result c = omega (arith, c.divide.ensures, double_small c.args.rest c.args.d c.requires.below)

pub returns-clause-same : goal.returns-clause-same
returns-clause-same c = rw (c.divide.ensures, c.remainder.ensures) (double_parts c.args.whole c.args.rest c.args.d)

pub returns-clause-below : goal.returns-clause-below
returns-clause-below c = rw c.remainder.ensures (mod-lt (2 * c.args.rest) (omega (arith, c.requires.below)))

pub returns-clause-small : goal.returns-clause-small
returns-clause-small c = omega (arith, c.divide.ensures, double_small c.args.rest c.args.d c.requires.below)
