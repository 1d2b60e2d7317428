use Rattle.wi_ranges.proofs.telling.+tell_all.Given as goal

abbrev pub decreases-tell_all : goal.decreases-tell_all
decreases-tell_all l = l.block.now.level
