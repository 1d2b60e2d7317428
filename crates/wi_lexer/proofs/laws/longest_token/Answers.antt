use Rattle.wi_lexer.proofs.TokenLemmas.{token_complete}
use Rattle.wi_lexer.proofs.laws.longest_token.Goals as goal

pub returns : goal.returns
returns c = token_complete
