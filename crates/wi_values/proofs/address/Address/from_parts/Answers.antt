use Rattle.wi_values.proofs.Words.{arith, common_steps, address_at}
use Rattle.wi_values.proofs.address.Address.from_parts.Goals as goal

pub returns : goal.returns
unfolding address_at
returns c = grind (arith, common_steps)
