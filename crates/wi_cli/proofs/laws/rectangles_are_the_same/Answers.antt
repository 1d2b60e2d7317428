use Rattle.wi_cli.proofs.Ties.Addresses.{same_rect}
use Rattle.wi_cli.proofs.laws.rectangles_are_the_same.Goals as goal

pub returns : goal.returns
returns c = same_rect
