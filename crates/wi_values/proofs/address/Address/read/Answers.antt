use Rattle.wi_values.proofs.Words.{rules, read_address}
use Rattle.wi_values.proofs.address.Address.read.Goals as goal

pub returns : goal.returns
unfolding read_address
returns c = search rules
