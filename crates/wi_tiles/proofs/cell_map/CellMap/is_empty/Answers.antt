use Rattle.wi_tiles.proofs.Words.{ap, ◌∙◌, ◌≡◌, [], length, ◌↔◌, IsTrue, ◌==◌}
use Rattle.wi_tiles.proofs.MapLemmas.{none_counted}
use Rattle.wi_tiles.proofs.cell_map.CellMap.is_empty.Goals as goal

pub returns : goal.returns
returns g c =
    let counted : IsTrue (c.self.inside.occupied == 0) ↔ (c.args.self.now.entries ≡ []) = none_counted c.self.inside.occupied c.args.self.now.entries (c.self.invariant.0 ∙ ap (λ m. length m.entries) c.self.view_is) in
    search counted
