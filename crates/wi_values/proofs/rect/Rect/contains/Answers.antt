use Rattle.wi_values.proofs.Words.{rules}
use Rattle.wi_values.proofs.rect.Rect.contains.Goals as goal

pub returns-then-column : goal.returns-then-column
returns-then-column c = search rules
