use Rattle.wi_propagate.proofs.Words.{◌<◌, ◌*◌, subst, All, keys_of, rows, columns, KeptSheet}
use Rattle.wi_propagate.proofs.kept.KeptCalculatorCalculator.cells_lie_in_the_sheet.Goals as goal

pub returns : goal.returns
returns c = subst (λ (k : KeptSheet). All (λ a. a < rows * columns) (keys_of k.stored.sheet)) c.self.view_is c.cells_lie_in_the_sheet.ensures
