use Rattle.wi_tiles.proofs.Tiles.{rank_made}
use Rattle.wi_tiles.proofs.tile.ones_below.Goals as goal

pub returns : goal.returns
returns c = rank_made c.args.bits c.args.bit c.requires
