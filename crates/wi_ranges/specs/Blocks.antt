-- Blocks of rows, and the cut of some rows into blocks. A block has 2^level rows, the first of them a multiple of
-- 2^level.
use Rattle.std.specs.Prelude.{ℕ, zero, suc, ◌+◌, ◌-◌, ◌^◌, List, [], ◌∷◌, ◌++◌, Bool, ◌&&◌, nat_lt, nat_le, if◌then◌else◌}
use Rattle.wi_values.specs.Address.{row_of}
use Rattle.wi_ranges.specs.declared.block.Block.{Block}
use Rattle.wi_ranges.specs.declared.pair.RangePair.{RangePair}

abbrev pub block : ℕ → ℕ → Block
block level first = record { level = level; first = first }

-- each row of the block is one of the rows from a to b
abbrev pub lies_within : ℕ → ℕ → Block → Bool
lies_within a b x = nat_le a x.first && nat_le (x.first + 2 ^ x.level) (b + 1)

-- some row of the block is one of the rows from a to b
abbrev pub meets : ℕ → ℕ → Block → Bool
meets a b x = nat_lt a (x.first + 2 ^ x.level) && nat_le x.first b

-- the largest blocks that lie within the rows from a to b, of the block of this level at this row: itself, or those of
-- its halves
unfoldable pub blocks_within : ℕ → ℕ → ℕ → ℕ → List Block
blocks_within a b zero f = if lies_within a b (block zero f) then block zero f ∷ [] else []
blocks_within a b (suc k) f =
    if lies_within a b (block (suc k) f) then block (suc k) f ∷ []
    else (if meets a b (block (suc k) f) then blocks_within a b k f ++ blocks_within a b k (f + 2 ^ k) else [])

abbrev pub first_row : RangePair → ℕ
first_row p = row_of p.first

-- the corners of a rectangle stand in order; with any others a pair has the row of the first
abbrev pub last_row : RangePair → ℕ
last_row p = if nat_lt (row_of p.last) (row_of p.first) then row_of p.first else row_of p.last

-- the largest blocks that lie within the rows of the pair's rectangle, of one block
abbrev pub blocks_in : RangePair → Block → List Block
blocks_in p x = blocks_within (first_row p) (last_row p) x.level x.first

-- the blocks of a pair: the largest that lie within the rows of its rectangle, from above
abbrev pub blocks_of : RangePair → List Block
blocks_of p = blocks_within (first_row p) (last_row p) 20 0

-- the half of a block that holds the row r of it
abbrev pub half_with : ℕ → Block → Block
half_with r x = block (x.level - 1) (if nat_lt r (x.first + 2 ^ (x.level - 1)) then x.first else x.first + 2 ^ (x.level - 1))

-- the blocks that hold the row r, from the block of this level at this row on down
unfoldable pub blocks_with : ℕ → ℕ → ℕ → List Block
blocks_with r zero f = block zero f ∷ []
blocks_with r (suc k) f = block (suc k) f ∷ blocks_with r k (if nat_lt r (f + 2 ^ k) then f else f + 2 ^ k)
