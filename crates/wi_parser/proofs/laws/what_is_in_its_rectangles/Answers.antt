use Rattle.wi_parser.proofs.Rectangles.{reads_within}
use Rattle.wi_parser.proofs.laws.what_is_in_its_rectangles.Goals as goal

pub returns : goal.returns
returns c = reads_within
