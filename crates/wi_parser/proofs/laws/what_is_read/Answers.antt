use Rattle.wi_parser.proofs.Sound.{whole_sound}
use Rattle.wi_parser.proofs.laws.what_is_read.Goals as goal

pub returns : goal.returns
returns c = whole_sound
