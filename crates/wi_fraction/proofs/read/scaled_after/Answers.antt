use Rattle.wi_fraction.proofs.read.scaled_after.Goals as goal

pub decimal-requires-clause-whole : goal.decimal-requires-clause-whole
decimal-requires-clause-whole c = rw c.alone.ensures c.requires.whole

pub decimal-requires-clause-parts : goal.decimal-requires-clause-parts
decimal-requires-clause-parts c = rw c.alone-in_default.ensures c.requires.parts
