use Rattle.wi_values.proofs.Words.{rules}
use Rattle.wi_values.proofs.Letters.{letters_of_column}
use Rattle.wi_values.proofs.address.Address.push_column.Goals as goal

pub returns-clause-ok : goal.returns-clause-ok
returns-clause-ok c = search (rules, letters_of_column)
