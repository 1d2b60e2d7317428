use Rattle.wi_worlds.proofs.Words.{◌∙◌, IfOk-weaker}
use Rattle.wi_worlds.proofs.PickedLemmas.{picked_is}
use Rattle.wi_worlds.proofs.part.copies_of.Goals as goal

pub returns-then-cells_lead : goal.returns-then-cells_lead
returns-then-cells_lead c =
    IfOk-weaker c.copies_by_cells.result _ _ (λ rs h. h ∙ picked_is c.args.replacements.now c.args.cells.now c.requires.order c.requires.rise) c.copies_by_cells.ensures
