use Rattle.wi_graph.proofs.Words.{refl}
use Rattle.wi_graph.proofs.WithinSteps.{none_ahead, apart_first, part_found, part_first}
use Rattle.wi_graph.proofs.within.next_within.Goals as goal

pub returns-in_err-part-clause-found : goal.returns-in_err-part-clause-found
returns-in_err-part-clause-found c = none_ahead c.args.cells.now c.args.area c.args.from c.from_residual.result c.from_residual.ensures

pub returns-in_err-part-clause-first : goal.returns-in_err-part-clause-first
returns-in_err-part-clause-first c = apart_first c.args.cells.now c.args.area c.around.result c.args.from c.from_residual.result c.around.ensures c.in_err-part.ensures

pub returns-clause-found : goal.returns-clause-found
returns-clause-found c =
    part_found c.args.cells.now c.set.result.now c.args.area c.around.result c.in_ok-part.part c.args.from c.args.from c.next_in_part.result c.set.ensures refl c.in_ok-part.ensures c.next_in_part.ensures.found

pub returns-clause-first : goal.returns-clause-first
returns-clause-first c =
    part_first c.args.cells.now c.set.result.now c.args.area c.around.result c.in_ok-part.part c.args.from c.args.from c.next_in_part.result c.set.ensures refl c.around.ensures c.in_ok-part.ensures c.next_in_part.ensures.first
