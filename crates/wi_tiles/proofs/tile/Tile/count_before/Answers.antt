use Rattle.wi_tiles.proofs.Words.{arith, ap, ◌∙◌, filled}
use Rattle.wi_tiles.proofs.Counts.{rank_filled}
use Rattle.wi_tiles.proofs.tile.Tile.count_before.Goals as goal

pub returns : goal.returns
returns g c = c.rank_of_first.ensures ∙ rank_filled c.self.inside.bits c.self.inside.values.items c.args.bit (omega (arith, c.requires)) c.self.invariant ∙ ap (λ s. filled s c.args.bit) c.self.view_is
