use Rattle.wi_lexer.proofs.Words.{rules}
use Rattle.wi_lexer.proofs.runs.is_blank.Goals as goal

pub returns-else-b-eq13 : goal.returns-else-b-eq13
returns-else-b-eq13 c = search rules
