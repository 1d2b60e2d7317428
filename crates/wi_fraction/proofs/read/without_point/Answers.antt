use Rattle.wi_fraction.proofs.Vocabulary.{◌∙◌, sym, gcd-one}
use Rattle.wi_fraction.proofs.Reading.{alone_some, alone_none}
use Rattle.wi_fraction.proofs.read.without_point.Goals as goal

pub returns-in_err-whole_number : goal.returns-in_err-whole_number
returns-in_err-whole_number c = c.from_residual.ensures ∙ alone_none c.args.negative c.args.digits.now (sym c.in_err-whole_number.was ∙ c.whole_number.ensures)

pub number_at-requires-clause-lowest : goal.number_at-requires-clause-lowest
number_at-requires-clause-lowest c = gcd-one c.in_ok-whole_number.field-0

pub returns : goal.returns
returns c = alone_some c.args.negative c.args.digits.now c.in_ok-whole_number.field-0 c.number_at.result c.in_ok-whole_number.ensures c.number_at.ensures
