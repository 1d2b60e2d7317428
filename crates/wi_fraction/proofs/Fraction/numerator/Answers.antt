use Rattle.wi_fraction.proofs.Vocabulary.{rules}
use Rattle.wi_fraction.proofs.Fraction.numerator.Goals as goal

pub returns : goal.returns
returns c = search rules
