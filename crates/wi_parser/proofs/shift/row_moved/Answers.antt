use Rattle.wi_parser.proofs.Words.{rules}
use Rattle.wi_parser.proofs.shift.row_moved.Goals as goal

pub returns-clause-value : goal.returns-clause-value
returns-clause-value c = search rules
