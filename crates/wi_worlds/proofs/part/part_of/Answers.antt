use Rattle.wi_worlds.proofs.Words.{◌∙◌, List, length, ap, Replacement, same_replacements}
use Rattle.wi_worlds.proofs.PickedLemmas.{picked_is}
use Rattle.wi_worlds.proofs.part.part_of.Goals as goal

pub returns-then-cells_lead-clause-count : goal.returns-then-cells_lead-clause-count
returns-then-cells_lead-clause-count c =
    c.part_by_cells.ensures.count ∙ ap (λ (rs : List Replacement). length rs) (picked_is c.args.replacements.now c.args.cells.now c.requires.order c.requires.rise)

pub returns-then-cells_lead-clause-last : goal.returns-then-cells_lead-clause-last
returns-then-cells_lead-clause-last c =
    c.part_by_cells.ensures.last ∙ ap (same_replacements c.args.last.now) (picked_is c.args.replacements.now c.args.cells.now c.requires.order c.requires.rise)
