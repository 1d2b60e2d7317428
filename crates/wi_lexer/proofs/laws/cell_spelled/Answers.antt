use Rattle.wi_lexer.proofs.CellLemmas.{cell_complete}
use Rattle.wi_lexer.proofs.laws.cell_spelled.Goals as goal

pub returns : goal.returns
returns c = cell_complete
