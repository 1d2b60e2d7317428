use Rattle.wi_parser.proofs.Words.{rules}
use Rattle.wi_parser.proofs.formula.Lists.copy.Goals as goal

pub returns-clause-rectangles : goal.returns-clause-rectangles
returns-clause-rectangles c = search rules
