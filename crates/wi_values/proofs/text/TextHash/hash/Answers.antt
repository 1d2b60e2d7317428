use Rattle.wi_values.proofs.Words.{rules}
use Rattle.wi_values.proofs.text.TextHash.hash.Goals as goal

pub returns : goal.returns
returns g c = search rules
