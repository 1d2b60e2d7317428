use Rattle.wi_fraction.proofs.Vocabulary.{rules, text_of}
use Rattle.wi_fraction.proofs.Fraction.push_text.Goals as goal

pub returns-clause-ok : goal.returns-clause-ok
unfolding text_of
returns-clause-ok c = search rules
