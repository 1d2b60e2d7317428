use Rattle.wi_lexer.proofs.Words.{rules}
use Rattle.wi_lexer.proofs.number.is_exponent_letter.Goals as goal

pub returns-else-b-eq101 : goal.returns-else-b-eq101
returns-else-b-eq101 c = search rules
