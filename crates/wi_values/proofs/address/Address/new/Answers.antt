use Rattle.wi_values.proofs.Words.{rules}
use Rattle.wi_values.proofs.address.Address.new.Goals as goal

pub returns-else-row-lt-ROWS-clause-within : goal.returns-else-row-lt-ROWS-clause-within
returns-else-row-lt-ROWS-clause-within c = search rules
