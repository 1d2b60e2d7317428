use Rattle.wi_lexer.proofs.TokenLemmas.{token_sound}
use Rattle.wi_lexer.proofs.laws.longest_is_found.Goals as goal

pub returns : goal.returns
returns c = token_sound
