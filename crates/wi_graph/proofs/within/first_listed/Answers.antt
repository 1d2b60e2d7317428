use Rattle.wi_graph.proofs.Words.{refl, as_set}
use Rattle.wi_graph.proofs.WithinSteps.{none_ahead, apart_first, part_found, part_first}
use Rattle.wi_graph.proofs.within.first_listed.Goals as goal

pub returns-in_err-part-clause-found : goal.returns-in_err-part-clause-found
returns-in_err-part-clause-found c = none_ahead (as_set c.args.cells.now) c.args.area c.args.area.first c.from_residual.result c.from_residual.ensures

pub returns-in_err-part-clause-first : goal.returns-in_err-part-clause-first
returns-in_err-part-clause-first c = apart_first (as_set c.args.cells.now) c.args.area c.args.bounds c.args.area.first c.from_residual.result c.requires.within c.in_err-part.ensures

pub next_in_part-requires : goal.next_in_part-requires
next_in_part-requires c = c.requires.order

pub returns-clause-found : goal.returns-clause-found
returns-clause-found c =
    part_found (as_set c.args.cells.now) (as_set c.args.cells.now) c.args.area c.args.bounds c.in_ok-part.part c.args.area.first c.first.result c.next_in_part.result refl c.first.ensures c.in_ok-part.ensures c.next_in_part.ensures.found

pub returns-clause-first : goal.returns-clause-first
returns-clause-first c =
    part_first (as_set c.args.cells.now) (as_set c.args.cells.now) c.args.area c.args.bounds c.in_ok-part.part c.args.area.first c.first.result c.next_in_part.result refl c.first.ensures c.requires.within c.in_ok-part.ensures
    c.next_in_part.ensures.first
