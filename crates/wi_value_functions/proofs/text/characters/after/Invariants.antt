use Rattle.wi_value_functions.proofs.Words.{◌≡◌, drop, chars, IsUtf8, EndsWith}
use Rattle.wi_value_functions.proofs.text.characters.after.Given as goal

abbrev pub invariant-loop : goal.invariant-loop
invariant-loop l = (chars l.rest.rest.now ≡ drop l.counter (chars l.text)) × IsUtf8 l.rest.rest.now × EndsWith l.text l.rest.rest.now
