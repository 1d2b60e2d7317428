use Rattle.wi_fraction.proofs.Vocabulary.{rules, same_parts}
use Rattle.wi_fraction.proofs.order.FractionPartialEq.eq.Goals as goal

pub returns-then-a-c : goal.returns-then-a-c
unfolding same_parts
returns-then-a-c c = search rules
