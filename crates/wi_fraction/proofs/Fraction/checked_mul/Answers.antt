use Rattle.wi_fraction.proofs.Vocabulary.{rules}
use Rattle.wi_fraction.proofs.Values.{product_value, value_by}
use Rattle.wi_fraction.proofs.Fraction.checked_mul.Goals as goal

pub returns-clause-value : goal.returns-clause-value
returns-clause-value c = search rules

pub returns-clause-exact : goal.returns-clause-exact
returns-clause-exact c = value_by _ _ _ _ (returns-clause-value c) (product_value c.args.self c.args.other)
