use Rattle.wi_lexer.proofs.Words.{rules}
use Rattle.wi_lexer.proofs.lexer.Lexer.new.Goals as goal

pub returns : goal.returns
returns c = search rules
