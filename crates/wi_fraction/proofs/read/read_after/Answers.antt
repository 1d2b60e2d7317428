use Rattle.wi_fraction.proofs.Vocabulary.{rules}
use Rattle.wi_fraction.proofs.read.read_after.Goals as goal

pub decimal-requires-clause-whole : goal.decimal-requires-clause-whole
decimal-requires-clause-whole c = rw c.alone.ensures c.requires

pub decimal-requires-clause-parts : goal.decimal-requires-clause-parts
decimal-requires-clause-parts c = rw c.alone-in-46.ensures (search rules)
