use Rattle.wi_values.proofs.Words.{rules, read_rect}
use Rattle.wi_values.proofs.rect.Rect.read.Goals as goal

pub returns-in_ok-cell-in-None : goal.returns-in_ok-cell-in-None
unfolding read_rect
returns-in_ok-cell-in-None c = search rules
