use Rattle.wi_propagate.proofs.plain.PlainCalculatorCalculator.what_if_value.Goals as goal

pub returns-clause-value : goal.returns-clause-value
returns-clause-value c = c.table_entry.ensures.value

pub returns-clause-evaluations : goal.returns-clause-evaluations
returns-clause-evaluations c = c.table_entry.ensures.spends.1.0

pub returns-clause-restarts : goal.returns-clause-restarts
returns-clause-restarts c = c.table_entry.ensures.spends.1.1

pub returns-clause-evaluations_never_fall : goal.returns-clause-evaluations_never_fall
returns-clause-evaluations_never_fall c = c.table_entry.ensures.spends.0.0

pub returns-clause-restarts_never_fall : goal.returns-clause-restarts_never_fall
returns-clause-restarts_never_fall c = c.table_entry.ensures.spends.0.1
