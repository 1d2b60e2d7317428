use Rattle.wi_propagate.proofs.Words.{formulas_and_cells, others_unmoved}
use Rattle.wi_propagate.proofs.plain.PlainCalculatorCalculator.mark.Goals as goal

pub returns-clause-marked : goal.returns-clause-marked
returns-clause-marked c =
    formulas_and_cells c.args.self.now.store.sheet c.in_ok-marked.marked.items c.args.cells.now c.extend_from_slice.new.self.items c.in_ok-marked.ensures c.in_ok-extend_from_slice.ensures.items

pub returns-clause-unmoved : goal.returns-clause-unmoved
returns-clause-unmoved c =
    others_unmoved c.args.self.now.store.sheet c.args.cells.now c.extend_from_slice.new.self.items
    (formulas_and_cells c.args.self.now.store.sheet c.in_ok-marked.marked.items c.args.cells.now c.extend_from_slice.new.self.items c.in_ok-marked.ensures c.in_ok-extend_from_slice.ensures.items)
