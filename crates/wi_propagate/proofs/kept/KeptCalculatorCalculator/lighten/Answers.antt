use Rattle.std.proofs.Common.{rules}
use Rattle.wi_propagate.proofs.kept.KeptCalculatorCalculator.lighten.Goals as goal

pub returns-then-has_long_texts-clause-lightened : goal.returns-then-has_long_texts-clause-lightened
returns-then-has_long_texts-clause-lightened c = search rules

pub returns-then-has_long_texts-clause-light : goal.returns-then-has_long_texts-clause-light
returns-then-has_long_texts-clause-light c = search rules

pub returns-else-has_long_texts-clause-lightened : goal.returns-else-has_long_texts-clause-lightened
returns-else-has_long_texts-clause-lightened c = search rules

pub returns-else-has_long_texts-clause-light : goal.returns-else-has_long_texts-clause-light
returns-else-has_long_texts-clause-light c = search rules
