use Rattle.wi_cli.proofs.Ties.Addresses.{same_addr}
use Rattle.wi_cli.proofs.laws.addresses_are_the_same.Goals as goal

pub returns : goal.returns
returns c = same_addr
