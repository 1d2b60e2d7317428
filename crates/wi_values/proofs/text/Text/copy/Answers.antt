use Rattle.wi_values.proofs.Words.{rules}
use Rattle.wi_values.proofs.text.Text.copy.Goals as goal

pub returns : goal.returns
returns c = search rules
