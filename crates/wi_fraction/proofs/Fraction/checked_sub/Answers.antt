use Rattle.wi_fraction.proofs.Vocabulary.{negated}
use Rattle.wi_fraction.proofs.Values.{sum_with, value_by, difference_value}
use Rattle.wi_fraction.proofs.Fraction.checked_sub.Goals as goal

pub returns-clause-value : goal.returns-clause-value
returns-clause-value c = sum_with c.args.self _ (negated c.args.other) _ _ c.checked_add.ensures.value (search)

pub returns-clause-exact : goal.returns-clause-exact
returns-clause-exact c =
    value_by _ _ _ _ (sum_with c.args.self _ (negated c.args.other) _ _ c.checked_add.ensures.value (search)) (difference_value c.args.self c.args.other)
