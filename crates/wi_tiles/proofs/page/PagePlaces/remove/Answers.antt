use Rattle.wi_tiles.proofs.BareLemmas.{columns_removed}
use Rattle.wi_tiles.proofs.page.PagePlaces.remove.Goals as goal

pub invariant_of-self : goal.invariant_of-self
invariant_of-self g c = (columns_removed c.self.inside.bands c.remove.new.self c.self.inside.columns c.args.path c.self.invariant.0 c.remove.ensures.left, c.remove.ensures.trimmed c.self.invariant.1)
