use Rattle.wi_functions.proofs.Words.{rules}
use Rattle.wi_functions.proofs.meter.Meter.evaluations.Goals as goal

pub returns : goal.returns
returns c = search rules
