use Rattle.wi_fraction.proofs.Vocabulary.{ap, Number}
use Rattle.wi_fraction.proofs.Numbers.{zero_is, zero_number}
use Rattle.wi_fraction.proofs.digits.zero.Goals as goal

pub invariant_of-parts : goal.invariant_of-parts
invariant_of-parts c = record { is_number = zero_is }

pub returns : goal.returns
returns c = zero_number c.of.result (ap (λ (x : Number). x.num) c.of.ensures) (ap (λ (x : Number). x.den) c.of.ensures)
