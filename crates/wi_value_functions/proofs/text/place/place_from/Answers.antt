use Rattle.wi_value_functions.proofs.Words.{ap, length, chars, arith, length-drop}
use Rattle.wi_value_functions.proofs.Counting.{few_chars}
use Rattle.wi_value_functions.proofs.text.place.place_from.Goals as goal

pub returns-clause-within : goal.returns-clause-within
returns-clause-within c =
    omega (arith, c.in_ok-place.ensures.within, ap length c.after.ensures.back, length-drop c.args.from (chars c.args.text.now), c.if-from-count.false, c.count.ensures, few_chars c.args.text.now c.utf8.text)
