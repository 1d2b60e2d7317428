use Rattle.wi_parser.proofs.Depth.{depth-deepest}
use Rattle.wi_parser.proofs.laws.no_deeper.Goals as goal

pub returns : goal.returns
returns c = depth-deepest
