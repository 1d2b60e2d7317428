use Rattle.wi_fraction.proofs.Scanning.{digits_before}
use Rattle.wi_fraction.proofs.read.read_size.Goals as goal

pub read_after-requires : goal.read_after-requires
read_after-requires c = rw c.digit_count-count.ensures.value (digits_before c.args.text.now)
