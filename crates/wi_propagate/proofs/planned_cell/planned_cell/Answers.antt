use Rattle.wi_propagate.proofs.Words.{◌∙◌, Option, Some, Ok, refl, ap, Value, Formula}
use Rattle.wi_parser.specs.Tree.{Tree}
use Rattle.wi_engine.proofs.Ledger.{values_from}
use Rattle.wi_propagate.proofs.planned_cell.planned_cell.Goals as goal

pub cell_by_plan-requires-clause-what_if : goal.cell_by_plan-requires-clause-what_if
cell_by_plan-requires-clause-what_if g c = c.requires.formula ∙ ap (λ (t : Tree). Some (Formula t)) (rw c.in-Some.is at c.what_if_alone.ensures)

-- ---- without a plan

pub returns-in_default-clause-values : goal.returns-in_default-clause-values
returns-in_default-clause-values g c = values_from refl refl c.formula_value.ensures

pub returns-in-None-clause-values : goal.returns-in-None-clause-values
returns-in-None-clause-values g c =
    let none = c.in_ok-value.ensures.tries.none (ap (λ (o : Option Value). Ok o) c.in-None.is) in
    values_from none.0 none.1 c.formula_value-result.ensures
