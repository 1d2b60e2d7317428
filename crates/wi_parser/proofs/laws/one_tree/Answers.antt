use Rattle.wi_parser.proofs.Complete.{one_tree}
use Rattle.wi_parser.proofs.laws.one_tree.Goals as goal

pub returns : goal.returns
returns c = one_tree
