use Rattle.wi_ranges.proofs.readers.+has_readers_within.Given as goal

abbrev pub decreases-has_readers_within : goal.decreases-has_readers_within
decreases-has_readers_within l = l.block.now.level
