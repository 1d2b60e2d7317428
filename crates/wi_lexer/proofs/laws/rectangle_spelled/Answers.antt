use Rattle.wi_lexer.proofs.RectangleLemmas.{rectangle_of_complete}
use Rattle.wi_lexer.proofs.laws.rectangle_spelled.Goals as goal

pub returns : goal.returns
returns c = rectangle_of_complete
