use Rattle.wi_values.proofs.Words.{rules}
use Rattle.wi_values.proofs.value.Value.shown.Goals as goal

pub returns : goal.returns
returns c = search rules
