use Rattle.wi_lexer.proofs.RectangleLemmas.{rectangle_of_sound}
use Rattle.wi_lexer.proofs.laws.rectangle_found.Goals as goal

pub returns : goal.returns
returns c = rectangle_of_sound
