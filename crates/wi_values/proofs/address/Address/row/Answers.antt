use Rattle.wi_values.proofs.Words.{rules}
use Rattle.wi_values.proofs.address.Address.row.Goals as goal

pub returns-clause-value : goal.returns-clause-value
returns-clause-value c = search rules

pub returns-clause-within : goal.returns-clause-within
returns-clause-within c = search rules
