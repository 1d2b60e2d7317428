use Rattle.wi_fraction.proofs.Vocabulary.{◌∙◌, sym, digits_value}
use Rattle.wi_fraction.proofs.Reading.{part_none_whole, whole_part_none, size_none, size_lowest, decimal_some}
use Rattle.wi_fraction.proofs.Steps.{bounded-some}
use Rattle.wi_fraction.proofs.read.decimal.Goals as goal

pub returns-in_err-part : goal.returns-in_err-part
returns-in_err-part c = c.from_residual.ensures ∙ part_none_whole c.args.negative c.args.whole.now c.args.parts.now c.requires.parts (sym c.in_err-part.was ∙ c.decimal_part.ensures)

pub returns-in_err-number : goal.returns-in_err-number
returns-in_err-number c = c.from_residual-in_err-number.ensures ∙ whole_part_none c.args.negative c.args.whole.now c.args.parts.now c.in_ok-part.part c.in_ok-part.ensures (sym c.in_err-number.was ∙ c.whole_number.ensures)

pub returns-in_err-size : goal.returns-in_err-size
returns-in_err-size c =
    let number = bounded-some (digits_value 10 c.args.whole.now) c.in_ok-number.number c.in_ok-number.ensures in
    c.from_residual-in_err-size.ensures ∙ size_none c.args.negative c.args.whole.now c.args.parts.now _ _ _ c.in_ok-part.part c.in_ok-part.ensures number.0 c.size.ensures c.denominator-denominator.ensures (sym c.in_err-size.was ∙ c.mul_add.ensures)

pub number_at-requires-clause-lowest : goal.number_at-requires-clause-lowest
number_at-requires-clause-lowest c = size_lowest _ _ _ _ c.in_ok-part.part c.size.ensures c.denominator-denominator.ensures c.in_ok-size.ensures

pub returns : goal.returns
returns c =
    let number = bounded-some (digits_value 10 c.args.whole.now) c.in_ok-number.number c.in_ok-number.ensures in
    decimal_some c.args.negative c.args.whole.now c.args.parts.now _ _ _ _ c.in_ok-part.part _ c.in_ok-part.ensures number.0 c.size.ensures c.denominator-denominator.ensures c.in_ok-size.ensures c.number_at.ensures
