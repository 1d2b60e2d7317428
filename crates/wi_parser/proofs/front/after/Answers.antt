use Rattle.wi_parser.proofs.Fronts.{stripped}
use Rattle.wi_parser.proofs.front.after.Goals as goal

pub returns : goal.returns
returns c = stripped _ _ _ c.strip_prefix.ensures.cases
