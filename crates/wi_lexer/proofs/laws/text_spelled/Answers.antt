use Rattle.wi_lexer.proofs.QuoteLemmas.{text_reads_back}
use Rattle.wi_lexer.proofs.laws.text_spelled.Goals as goal

pub returns : goal.returns
returns c = text_reads_back
