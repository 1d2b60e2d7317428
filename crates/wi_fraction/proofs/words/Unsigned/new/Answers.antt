use Rattle.wi_fraction.proofs.Vocabulary.{from_halves}
use Rattle.wi_fraction.proofs.words.Unsigned.new.Goals as goal

pub returns : goal.returns
returns c = rw (c.high_half.ensures, c.low_half.ensures) (from_halves c.args.n)
