use Rattle.wi_values.proofs.Words.{rules, shown_text}
use Rattle.wi_values.proofs.value.Value.push_shown.Goals as goal

pub returns-in-Empty-clause-ok : goal.returns-in-Empty-clause-ok
unfolding shown_text
returns-in-Empty-clause-ok c = search rules
