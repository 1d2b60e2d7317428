use Rattle.wi_scenarios.proofs.SessionLemmas.{whole_area, occupied_closed}
use Rattle.wi_scenarios.proofs.session.occupied.Goals as goal

pub returns-clause-cells : goal.returns-clause-cells
returns-clause-cells g c =
    rw (whole_area c.at-first.result c.at-last.result c.new.result c.at-first.ensures c.at-last.ensures c.new.ensures) at c.occupied_in.ensures

pub returns-clause-closed : goal.returns-clause-closed
returns-clause-closed g c =
    occupied_closed g.C.Calculator.marked g.met.C.Calculator.marks (g.C.Calculator.stored c.args.calculator.now).sheet c.cells_lie_in_the_sheet.ensures
