use Rattle.wi_lexer.proofs.ReferenceLemmas.{reference_of_complete}
use Rattle.wi_lexer.proofs.laws.reference_spelled.Goals as goal

pub returns : goal.returns
returns c = reference_of_complete
