use Rattle.wi_lexer.proofs.CellLemmas.{cell_sound}
use Rattle.wi_lexer.proofs.laws.cell_found.Goals as goal

pub returns : goal.returns
returns c = cell_sound
