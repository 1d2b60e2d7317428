use Rattle.wi_values.proofs.Words.{rules}
use Rattle.wi_values.proofs.text.Text.as_str.Goals as goal

pub returns-in-Some : goal.returns-in-Some
returns-in-Some c = search rules
