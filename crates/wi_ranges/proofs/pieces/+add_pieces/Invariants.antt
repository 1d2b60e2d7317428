use Rattle.wi_ranges.proofs.pieces.+add_pieces.Given as goal

abbrev pub decreases-add_pieces : goal.decreases-add_pieces
decreases-add_pieces l = l.block.now.level
