use Rattle.wi_values.proofs.Words.{rules}
use Rattle.wi_values.proofs.text.TextPartialEq.eq.Goals as goal

pub returns : goal.returns
returns c = search rules
