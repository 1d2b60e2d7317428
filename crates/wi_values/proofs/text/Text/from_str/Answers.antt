use Rattle.wi_values.proofs.Words.{rules}
use Rattle.wi_values.proofs.text.Text.from_str.Goals as goal

pub returns : goal.returns
returns c = search rules
