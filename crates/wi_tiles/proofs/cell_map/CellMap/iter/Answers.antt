use Rattle.wi_tiles.proofs.Words.{rules, ap, ◌∙◌, ◌≡◌, ◌<◌, ◌*◌, subst, All, rows, columns}
use Rattle.wi_tiles.proofs.MapLemmas.{within_sheet}
use Rattle.wi_tiles.proofs.WalkLemmas.{all_pass}
use Rattle.wi_tiles.proofs.cell_map.CellMap.iter.Goals as goal

pub returns-clause-entries : goal.returns-clause-entries
returns-clause-entries g c =
    let from : c.at.result ≡ 0 = search rules in
    c.new.ensures ∙ all_pass c.self.inside.pages c.sheet.result c.at.result from c.sheet.ensures.first c.sheet.ensures.last ∙ ap (λ m. m.entries) c.self.view_is

pub returns-clause-sheet : goal.returns-clause-sheet
returns-clause-sheet g c = subst (λ m. All (λ e. e.0 < rows * columns) m.entries) c.self.view_is (within_sheet c.self.inside.pages)
