use Rattle.wi_parser.proofs.Grammatical.{spelling_exactly}
use Rattle.wi_parser.proofs.laws.what_the_levels_spell.Goals as goal

pub returns : goal.returns
returns c = λ t ts. spelling_exactly t ts
