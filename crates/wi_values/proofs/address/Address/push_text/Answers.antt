use Rattle.wi_values.proofs.Words.{arith, common_steps, address_text}
use Rattle.wi_values.proofs.Letters.{letters_of_column}
use Rattle.wi_values.proofs.address.Address.push_text.Goals as goal

pub returns-clause-ok : goal.returns-clause-ok
unfolding address_text
returns-clause-ok c = grind (arith, common_steps, letters_of_column)
