use Rattle.wi_lexer.proofs.Words.{rules, mark_at}
use Rattle.wi_lexer.proofs.mark.mark_at.Goals as goal

pub returns : goal.returns
unfolding mark_at
returns c = search rules
