use Rattle.wi_tiles.proofs.Words.{rules, ap, ◌∙◌, nat_cmp, get}
use Rattle.wi_tiles.proofs.MapLemmas.{found}
use Rattle.wi_tiles.proofs.cell_map.CellMap.get.Goals as goal

pub returns : goal.returns
returns g c =
    c.get.ensures ∙ found c.self.inside.pages c.args.cell c.path_of.result (search rules) (search rules) ∙ ap (λ m. get nat_cmp m c.args.cell) c.self.view_is
