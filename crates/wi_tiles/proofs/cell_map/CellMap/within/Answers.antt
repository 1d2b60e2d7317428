use Rattle.wi_tiles.proofs.Words.{ap, ◌∙◌, nat_le, filter, ◌&&◌, is_within}
use Rattle.wi_tiles.proofs.cell_map.CellMap.within.Goals as goal

pub returns : goal.returns
returns g c = c.new.ensures ∙ ap (λ m. filter (λ e. nat_le c.args.from e.0 && is_within c.args.area e.0) m.entries) c.self.view_is
