use Rattle.wi_value_functions.proofs.Words.{◌∙◌, arith}
use Rattle.wi_value_functions.proofs.Joining.{too_often, not_too_often}
use Rattle.wi_value_functions.proofs.text.joined.repeated.Goals as goal

pub returns-then-saturating_mul-gt-MAX_TEXT : goal.returns-then-saturating_mul-gt-MAX_TEXT
returns-then-saturating_mul-gt-MAX_TEXT c =
    too_often c.args.number c.min-times.result c.saturating_mul.result c.args.text.now c.min-times.ensures c.saturating_mul.ensures c.if-saturating_mul-gt-MAX_TEXT.true

pub returns : goal.returns
returns c =
    not_too_often c.args.number c.min-times.result c.saturating_mul.result c.args.text.now c.in_ok-text.text c.min-times.ensures c.saturating_mul.ensures
    (omega (arith, c.if-saturating_mul-gt-MAX_TEXT.false)) (c.in_ok-text.ensures ∙ c.in_ok-all.ensures.bytes)
