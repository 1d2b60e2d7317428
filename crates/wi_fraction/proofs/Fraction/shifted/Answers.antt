use Rattle.wi_fraction.proofs.Vocabulary.{arith, gcd-one}
use Rattle.wi_fraction.proofs.Exponents.{ten_pow_few, one_lowest}
use Rattle.wi_fraction.proofs.Fineness.{ten_pow_pos}
use Rattle.wi_fraction.proofs.Fraction.shifted.Goals as goal

pub pow-ten-requires : goal.pow-ten-requires
pow-ten-requires c = let few = ten_pow_few c.args.power c.requires in omega (arith, few)

pub multiplied-requires-clause-second_above_zero : goal.multiplied-requires-clause-second_above_zero
multiplied-requires-clause-second_above_zero c = rw c.pow-ten.ensures (ten_pow_pos c.args.power)

pub multiplied-requires-clause-second_lowest : goal.multiplied-requires-clause-second_lowest
multiplied-requires-clause-second_lowest c = one_lowest c.pow-ten.result

pub multiplied-requires-2-clause-second_lowest : goal.multiplied-requires-2-clause-second_lowest
multiplied-requires-2-clause-second_lowest c = gcd-one c.pow-ten.result
