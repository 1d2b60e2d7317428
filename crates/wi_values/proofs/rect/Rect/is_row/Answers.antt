use Rattle.wi_values.proofs.Words.{rules}
use Rattle.wi_values.proofs.rect.Rect.is_row.Goals as goal

pub returns : goal.returns
returns c = search rules
