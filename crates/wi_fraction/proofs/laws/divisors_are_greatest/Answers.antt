use Rattle.wi_fraction.proofs.Vocabulary.{is_gcd}
use Rattle.wi_fraction.proofs.laws.divisors_are_greatest.Goals as goal

pub returns : goal.returns
returns c = is_gcd
