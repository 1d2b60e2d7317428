use Rattle.wi_lexer.proofs.TextLemmas.{tokens_of_text}
use Rattle.wi_lexer.proofs.laws.what_tokens_are.Goals as goal

pub returns : goal.returns
returns c = tokens_of_text
