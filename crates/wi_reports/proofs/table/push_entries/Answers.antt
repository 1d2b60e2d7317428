use Rattle.wi_reports.proofs.Words.{arith, common_steps, sym, ap, entries_cases}
use Rattle.wi_reports.proofs.CostLemmas.{asked_same}
use Rattle.wi_reports.proofs.table.push_entries.Goals as goal

pub push_entry-requires : goal.push_entry-requires
push_entry-requires g c = c.requires.order

pub push_row_entries-requires : goal.push_row_entries-requires
push_row_entries-requires g c = c.requires.order

pub returns-in-None-clause-texts : goal.returns-in-None-clause-texts
returns-in-None-clause-texts g c = grind (arith, common_steps)

pub returns-in-None-clause-cost : goal.returns-in-None-clause-cost
returns-in-None-clause-cost g c =
    asked_same (ap (λ o. entries_cases (g.C.Calculator.stored c.args.calculator.now).sheet c.args.replacements.now c.args.table.now.formula_cell c.args.table.now.input o c.args.x) (sym c.in-None.is)) c.push_entry.ensures.cost
