use Rattle.wi_lexer.proofs.Words.{rules}
use Rattle.wi_lexer.proofs.token.Mark.text.Goals as goal

pub returns-in-Plus : goal.returns-in-Plus
returns-in-Plus c = search rules
