use Rattle.wi_tiles.proofs.Words.{rules}
use Rattle.wi_tiles.proofs.NextLemmas.{starts_below}
use Rattle.wi_tiles.proofs.pages.start.Goals as goal

pub returns-then-column-clause-start : goal.returns-then-column-clause-start
returns-then-column-clause-start c = search (rules, starts_below)
