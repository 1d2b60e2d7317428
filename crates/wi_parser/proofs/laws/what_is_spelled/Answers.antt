use Rattle.wi_parser.proofs.Complete.{whole_complete}
use Rattle.wi_parser.proofs.laws.what_is_spelled.Goals as goal

pub returns : goal.returns
returns c = whole_complete
