use Rattle.wi_functions.proofs.Words.{rules}
use Rattle.wi_functions.proofs.number.whole_result.Goals as goal

pub returns-else-not-are_whole-2 : goal.returns-else-not-are_whole-2
returns-else-not-are_whole-2 c = search rules

pub returns-else-not-is_short-2 : goal.returns-else-not-is_short-2
returns-else-not-is_short-2 c = search rules
