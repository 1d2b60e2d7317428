use Rattle.wi_worlds.proofs.Words.{rules}
use Rattle.wi_worlds.proofs.compared.WorldHash.hash.Goals as goal

pub returns : goal.returns
returns g c = search rules
