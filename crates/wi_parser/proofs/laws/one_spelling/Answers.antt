use Rattle.wi_parser.proofs.OneSpelling.{spelled}
use Rattle.wi_parser.proofs.laws.one_spelling.Goals as goal

pub returns : goal.returns
returns c = λ k t ts s. spelled s
