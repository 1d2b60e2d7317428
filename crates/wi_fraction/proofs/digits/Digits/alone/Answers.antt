use Rattle.wi_fraction.proofs.Vocabulary.{append-nil}
use Rattle.wi_fraction.proofs.digits.Digits.alone.Goals as goal

pub returns : goal.returns
returns c = append-nil c.args.digits.now
