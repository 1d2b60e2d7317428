use Rattle.wi_propagate.proofs.kept.KeptCalculatorCalculator.apply_slice.Goals as goal

pub returns-clause-edited : goal.returns-clause-edited
returns-clause-edited c = search
