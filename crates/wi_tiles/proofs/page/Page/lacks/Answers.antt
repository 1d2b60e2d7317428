use Rattle.wi_tiles.proofs.Words.{sym, ap, ◌∙◌}
use Rattle.wi_tiles.proofs.BareLemmas.{in_bands, columns_lack}
use Rattle.wi_tiles.proofs.page.Page.lacks.Goals as goal

pub returns : goal.returns
returns g c = λ none p one. sym (ap (λ w. in_bands w p) c.self.view_is) ∙ columns_lack c.self.inside.bands c.self.inside.columns c.args.columns c.self.invariant.0 none p one
