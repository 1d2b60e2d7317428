use Rattle.wi_ranges.proofs.block.Block.+first_of.Given as goal

abbrev pub decreases-first_of : goal.decreases-first_of
decreases-first_of l = l.self.now.level
