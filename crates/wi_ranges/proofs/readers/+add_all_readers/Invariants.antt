use Rattle.wi_ranges.proofs.readers.+add_all_readers.Given as goal

abbrev pub decreases-add_all_readers : goal.decreases-add_all_readers
decreases-add_all_readers l = l.block.now.level
