use Rattle.wi_parser.proofs.Shifts.{by_nothing}
use Rattle.wi_parser.proofs.laws.shifted_by_nothing.Goals as goal

pub returns : goal.returns
returns c = by_nothing
