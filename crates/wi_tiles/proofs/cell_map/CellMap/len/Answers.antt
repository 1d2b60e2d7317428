use Rattle.wi_tiles.proofs.Words.{arith, ap, ◌∙◌, ◌<◌, ◌*◌, length, subst, nat_cmp, All, rows, columns, IsOrdered}
use Rattle.wi_tiles.proofs.MapLemmas.{rises, within_sheet, length_within}
use Rattle.wi_tiles.proofs.cell_map.CellMap.len.Goals as goal

pub returns-clause-len : goal.returns-clause-len
returns-clause-len g c = c.self.invariant.0 ∙ ap (λ m. length m.entries) c.self.view_is

pub returns-clause-ordered : goal.returns-clause-ordered
returns-clause-ordered g c = subst (λ m. IsOrdered nat_cmp m) c.self.view_is (rises c.self.inside.pages)

pub returns-clause-sheet : goal.returns-clause-sheet
returns-clause-sheet g c = subst (λ m. All (λ e. e.0 < rows * columns) m.entries) c.self.view_is (within_sheet c.self.inside.pages)

pub returns-clause-small : goal.returns-clause-small
returns-clause-small g c = omega (arith, c.self.invariant.0, length_within c.self.inside.pages)
