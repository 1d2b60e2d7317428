use Rattle.wi_ranges.proofs.Words.{sym}
use Rattle.wi_ranges.proofs.index.RangeIndex.search.Goals as goal

pub new-requires-clause-parts : goal.new-requires-clause-parts
new-requires-clause-parts c = sym c.self.view_is

pub new-requires-clause-whole : goal.new-requires-clause-whole
new-requires-clause-whole c = c.self.invariant.0

pub new-requires-clause-around : goal.new-requires-clause-around
new-requires-clause-around c = c.self.invariant.1
