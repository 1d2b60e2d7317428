use Rattle.wi_lexer.proofs.TokenLemmas.{none_begins}
use Rattle.wi_lexer.proofs.laws.no_token.Goals as goal

pub returns : goal.returns
returns c = none_begins
