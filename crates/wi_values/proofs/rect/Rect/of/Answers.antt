use Rattle.wi_values.proofs.Corners.{one_cell}
use Rattle.wi_values.proofs.rect.Rect.of.Goals as goal

pub returns : goal.returns
returns c = one_cell c.args.cell
