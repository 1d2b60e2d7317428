use Rattle.wi_tiles.proofs.Words.{rules, sym}
use Rattle.wi_tiles.proofs.within.place_of.Goals as goal

pub returns-then-whole : goal.returns-then-whole
returns-then-whole g c = sym (c.requires.counted (search rules))
