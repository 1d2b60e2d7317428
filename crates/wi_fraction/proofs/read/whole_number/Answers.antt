use Rattle.wi_fraction.proofs.read.whole_number.Goals as goal

pub whole_number-requires : goal.whole_number-requires
whole_number-requires c = rw c.alone.ensures c.requires

pub returns : goal.returns
returns c = rw c.alone.ensures at c.whole_number.ensures
