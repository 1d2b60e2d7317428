use Rattle.wi_lexer.proofs.ReferenceLemmas.{reference_of_sound}
use Rattle.wi_lexer.proofs.laws.reference_found.Goals as goal

pub returns : goal.returns
returns c = reference_of_sound
