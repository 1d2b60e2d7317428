use Rattle.wi_tiles.proofs.BareLemmas.{columns_replaced}
use Rattle.wi_tiles.proofs.page.PagePlaces.replace.Goals as goal

pub invariant_of-self : goal.invariant_of-self
invariant_of-self g c = (columns_replaced c.self.inside.bands c.replace.new.self c.self.inside.columns c.args.path c.args.value c.self.invariant.0 c.replace.ensures.put, c.replace.ensures.trimmed c.self.invariant.1)
