use Rattle.wi_tiles.proofs.MaskLemmas.{between_bits}
use Rattle.wi_tiles.proofs.masks.lines_between.Goals as goal

pub returns : goal.returns
returns c = between_bits c.args.top c.args.bottom c.requires.top c.requires.bottom
