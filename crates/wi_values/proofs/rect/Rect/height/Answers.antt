use Rattle.wi_values.proofs.Words.{rules}
use Rattle.wi_values.proofs.rect.Rect.height.Goals as goal

pub returns-clause-value : goal.returns-clause-value
returns-clause-value c = search rules
