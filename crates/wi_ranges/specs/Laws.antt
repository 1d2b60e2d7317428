-- Laws of blocks.
use Rattle.std.specs.Prelude.{◌≡◌, ℕ, ◌+◌, ◌*◌, ◌^◌, ◌<◌, ◌≤◌, ◌⊎◌, List, [], ◌∷◌, ◌&&◌, true, false, nat_lt, nat_le, length, if◌then◌else◌}
use Rattle.wi_values.specs.Address.{rows}
use Rattle.wi_ranges.specs.declared.block.Block.{Block}
use Rattle.wi_ranges.specs.declared.pair.RangePair.{RangePair}
use Rattle.wi_ranges.specs.Blocks.{lies_within, blocks_of, first_row, last_row}
use Rattle.wi_ranges.specs.Inner.Index.{is_among}

-- how many of the blocks hold the row r
abbrev pub times_held : ℕ → List Block → ℕ
times_held r [] = 0
times_held r (x ∷ xs) = (if nat_le x.first r && nat_lt r (x.first + 2 ^ x.level) then 1 else 0) + times_held r xs

-- each row of the rectangle is in one block of the pair and no more, and no other row of the sheet is in any
abbrev pub RowsAreHeldOnce : Type 0
RowsAreHeldOnce = (p : RangePair) (r : ℕ) → r < rows
    → (first_row p ≤ r → r ≤ last_row p → times_held r (blocks_of p) ≡ 1)
    × ((r < first_row p) ⊎ (last_row p < r) → times_held r (blocks_of p) ≡ 0)

-- no pair has more than 38 blocks
abbrev pub BlocksAreFew : Type 0
BlocksAreFew = (p : RangePair) → length (blocks_of p) ≤ 38

-- a block of 2^level rows begins at a multiple of 2^level
abbrev pub IsAligned : Block → Type 0
IsAligned x = (n : ℕ) × (x.first ≡ n * 2 ^ x.level)

-- all rows of the block x are rows of the block y
abbrev pub IsPartOf : Block → Block → Type 0
IsPartOf x y = (y.first ≤ x.first) × (x.first + 2 ^ x.level ≤ y.first + 2 ^ y.level)

-- each block of a pair is one of the sheet's and lies within the rows of the rectangle, as no larger block of the sheet
-- does that it is a part of
abbrev pub BlocksAreLargest : Type 0
BlocksAreLargest = (p : RangePair) (x : Block) → is_among x (blocks_of p) ≡ true
    → IsAligned x × (lies_within (first_row p) (last_row p) x ≡ true)
    × ((y : Block) → IsAligned y → y.level ≤ 20 → x.level < y.level → IsPartOf x y → lies_within (first_row p) (last_row p) y ≡ false)
