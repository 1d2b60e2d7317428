use Rattle.wi_parser.proofs.ContentsOfTexts.{one_tree_of_text}
use Rattle.wi_parser.proofs.laws.one_tree_of_a_text.Goals as goal

pub returns : goal.returns
returns c = one_tree_of_text
