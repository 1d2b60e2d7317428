use Rattle.wi_values.proofs.Words.{rules, imported}
use Rattle.wi_values.proofs.import.imported_value.Goals as goal

pub returns-in-Some-clause-value : goal.returns-in-Some-clause-value
unfolding imported
returns-in-Some-clause-value c = search rules

pub returns-in-Some-clause-too_long : goal.returns-in-Some-clause-too_long
unfolding imported
returns-in-Some-clause-too_long c = search rules
