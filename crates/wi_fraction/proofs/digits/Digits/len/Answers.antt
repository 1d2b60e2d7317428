use Rattle.wi_fraction.proofs.Vocabulary.{arith}
use Rattle.wi_fraction.proofs.Pieces.{pieces_length}
use Rattle.wi_fraction.proofs.digits.Digits.len.Goals as goal

pub returns : goal.returns
returns c = omega (arith, pieces_length c.self.inside.first.now c.self.inside.second.now c.args.self.now c.self.view_is)
