use Rattle.wi_tiles.proofs.Words.{rules}
use Rattle.wi_tiles.proofs.pages.path_of.Goals as goal

pub returns-clause-value : goal.returns-clause-value
returns-clause-value c = search rules
