use Rattle.wi_lexer.proofs.EndLemmas.{token_and_rest}
use Rattle.wi_lexer.proofs.laws.token_and_rest.Goals as goal

pub returns : goal.returns
returns c = token_and_rest
