use Rattle.wi_fraction.proofs.Vocabulary.{arith}
use Rattle.wi_fraction.proofs.Exponents.{ten_pow_few, bounded-raised}
use Rattle.wi_fraction.proofs.read.raised_size.Goals as goal

pub returns-then-power-gt38 : goal.returns-then-power-gt38
returns-then-power-gt38 c = bounded-raised c.args.size c.args.power (omega arith) (omega arith)

pub pow-requires : goal.pow-requires
pow-requires c = let few = ten_pow_few c.args.power (omega arith) in omega (arith, few)
