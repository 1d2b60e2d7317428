use Rattle.wi_ranges.proofs.Words.{◌-◌, ◌≡◌, ◌+◌, ◌^◌, ◌≤◌, ℕ, list_any, rows, blocks_with, reads_at}
use Rattle.wi_ranges.proofs.readers.highest_block.Given as goal

-- below the block stands all that stands at the blocks that hold the row
abbrev pub invariant-loop-block : goal.invariant-loop-block
invariant-loop-block l =
    (l.block.first + 2 ^ l.block.level ≤ rows)
    × ((a r : ℕ) → list_any (reads_at (blocks_with l.row l.block.level l.block.first) a r) l.pieces.keys
    ≡ list_any (reads_at (blocks_with l.row 20 0) a r) l.pieces.keys)

abbrev pub decreases-loop-block : goal.decreases-loop-block
decreases-loop-block l = l.block.level - l.level
