use Rattle.wi_fraction.proofs.Vocabulary.{◌∙◌, sym, ap, arith, digit_value}
use Rattle.wi_fraction.proofs.Pieces.{digit_left, digit_right, range_left, range_right}
use Rattle.wi_fraction.proofs.digits.Digits.at.Goals as goal

pub digit-requires : goal.digit-requires
digit-requires c = range_left c.self.inside.first.now c.self.inside.second.now c.args.self.now c.args.i c.self.view_is c.requires.digits c.requires.inside c.if-i-count.true

pub returns-then-i-count-clause-value : goal.returns-then-i-count-clause-value
returns-then-i-count-clause-value c = c.digit.ensures.value ∙ ap digit_value (sym (digit_left c.self.inside.first.now c.self.inside.second.now c.args.self.now c.args.i c.self.view_is c.if-i-count.true))

pub digit-requires-2 : goal.digit-requires-2
digit-requires-2 c = range_right c.self.inside.first.now c.self.inside.second.now c.args.self.now c.args.i c.self.view_is c.requires.digits c.requires.inside (omega arith)

pub returns-clause-value : goal.returns-clause-value
returns-clause-value c = c.digit-2.ensures.value ∙ ap digit_value (sym (digit_right c.self.inside.first.now c.self.inside.second.now c.args.self.now c.args.i c.self.view_is (omega arith)))
