use Rattle.wi_fraction.proofs.Vocabulary.{rules}
use Rattle.wi_fraction.proofs.order.FractionPartialOrd.partial_cmp.Goals as goal

pub returns : goal.returns
returns c = search rules
