use Rattle.wi_fraction.proofs.Scanning.{digits_before}
use Rattle.wi_fraction.proofs.Fraction.read_decimal.Goals as goal

pub decimal_after-requires : goal.decimal_after-requires
decimal_after-requires c = rw c.digit_count-count.ensures.value (digits_before c.args.token.now)
