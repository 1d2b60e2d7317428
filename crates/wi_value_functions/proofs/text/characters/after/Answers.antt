use Rattle.wi_value_functions.proofs.Words.{◌∙◌, ap, chars, arith, chars_rest}
use Rattle.wi_value_functions.proofs.Counting.{advance, at_end}
use Rattle.wi_value_functions.proofs.text.characters.after.Goals as goal

pub loop-preserved : goal.loop-preserved
loop-preserved c = advance chars_rest c.args.text.now c.loop.counter c.loop.rest c.next.new.self c.next.result c.loop.invariant c.next.ensures.steps.0

pub returns-clause-back : goal.returns-clause-back
returns-clause-back c =
    ap chars c.as_str.ensures ∙ c.loop.invariant.0
    ∙ at_end c.args.text.now c.args.count c.loop.counter c.utf8.text (omega (arith, c.min-end.ensures, c.loop-test.false, c.loop.auto.counter-end))
