use Rattle.wi_fraction.proofs.Vocabulary.{arith, rules, ◌∙◌, nat_tests, ◌^◌, digits_value, with_exponent, lowered, raised}
use Rattle.std.proofs.Common.{◌≡◌, ◌<◌, length}
use Rattle.wi_fraction.proofs.Pieces.{digits_append}
use Rattle.wi_fraction.proofs.Exponents.{raised_capped, lowered_capped}
use Rattle.wi_fraction.proofs.read.with_exponent.Goals as goal

pub returns-then-negative : goal.returns-then-negative
unfolding with_exponent
returns-then-negative c =
    let short : length c.args.whole.now < 2 ^ 64 = search rules in
    let value : c.lowered.result ≡ lowered c.args.whole.now c.args.parts.now (digits_value 10 c.args.digits.now) = c.lowered.ensures ∙ lowered_capped c.args.whole.now c.args.parts.now _ _ (digits_append _ _ c.requires.whole c.requires.parts) short c.exponent-power.ensures.exact c.exponent-power.ensures.large in
    grind (arith, nat_tests, value, c.is_numeral.ensures.value)

pub returns-else-negative : goal.returns-else-negative
unfolding with_exponent
returns-else-negative c =
    let short : length c.args.parts.now < 2 ^ 64 = search rules in
    let value : c.raised.result ≡ raised c.args.whole.now c.args.parts.now (digits_value 10 c.args.digits.now) = c.raised.ensures ∙ raised_capped c.args.whole.now c.args.parts.now _ _ short c.exponent-power.ensures.exact c.exponent-power.ensures.large in
    grind (arith, nat_tests, value, c.is_numeral.ensures.value)
