use Rattle.wi_functions.proofs.Words.{rules}
use Rattle.wi_functions.proofs.meter.Meter.count_evaluation.Goals as goal

pub returns : goal.returns
returns c = search rules
