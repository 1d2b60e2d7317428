use Rattle.wi_values.proofs.Words.{rules}
use Rattle.wi_values.proofs.cells.sooner.Goals as goal

pub returns-in-Some-Some : goal.returns-in-Some-Some
returns-in-Some-Some c = search rules
