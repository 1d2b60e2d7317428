use Rattle.wi_tiles.proofs.Words.{w64, bit_at_clear_same, bit_at_clear_other}
use Rattle.wi_tiles.proofs.within.without.Goals as goal

pub returns-clause-cleared : goal.returns-clause-cleared
returns-clause-cleared c = bit_at_clear_same w64 c.args.bits c.args.bit c.requires

pub returns-clause-others : goal.returns-clause-others
returns-clause-others c = λ i u apart. bit_at_clear_other w64 c.args.bits c.args.bit c.requires i u apart
