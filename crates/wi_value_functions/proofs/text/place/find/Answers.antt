use Rattle.wi_value_functions.proofs.Words.{rules}
use Rattle.wi_value_functions.proofs.text.place.find.Goals as goal

pub returns-in-Some : goal.returns-in-Some
returns-in-Some c = search rules
