-- The index by blocks: each pair stands at each of its blocks, and equal ones by their numbers.
use Rattle.std.specs.Prelude.{◌≡◌, ℕ, ◌+◌, ◌^◌, ◌<◌, ◌≤◌, All, ◌==◌, List, [], ◌∷◌, Bool, true, false, not, ◌&&◌, nat_lt, nat_le, length, if◌then◌else◌, IsTrue, Result, IfOk, OnOk, OnErr}
use Rattle.std.specs.declared.alloc.AllocError.{AllocError}
use Rattle.std.specs.Ordering.{nat_cmp, ordering_then}
use Rattle.std.specs.declared.cmp.Ordering.{Ordering}
use Rattle.std.specs.List.{list_any, sum_by}
use Rattle.std.specs.List.Sorted.{IsStrictlySortedBy}
use Rattle.std.specs.BTreeMap.{is_at}
use Rattle.wi_values.specs.Address.{is_within, rows}
use Rattle.wi_ranges.specs.Blocks.{blocks_in, blocks_of, first_row}
use Rattle.wi_ranges.specs.Bag.{Bag, HasOneMore, lowest_pair, pair_cmp, is_same, pair_area, count_of, pieces_of, raise}
use Rattle.wi_ranges.specs.declared.block.Block.{Block}
use Rattle.wi_ranges.specs.declared.pair.RangePair.{RangePair}
use Rattle.wi_ranges.specs.declared.pair.Numbered.{Numbered}

abbrev pub block_cmp : Block → Block → Ordering
block_cmp x y = ordering_then (nat_cmp x.level y.level) (nat_cmp x.first y.first)

-- equal pairs stand by their numbers
abbrev pub numbered_cmp : Numbered → Numbered → Ordering
numbered_cmp m n = ordering_then (pair_cmp m.pair n.pair) (nat_cmp m.number n.number)

abbrev pub is_one : Numbered → Numbered → Bool
is_one m n = is_at (numbered_cmp m) n

-- the first in this order
abbrev pub lowest : Numbered
lowest = record { pair = lowest_pair; number = 0 }

-- a block and a pair that stands there
abbrev pub Piece : Type 0
Piece = Block × Numbered

abbrev pub piece_cmp : Piece → Piece → Ordering
piece_cmp x y = ordering_then (block_cmp x.0 y.0) (numbered_cmp x.1 y.1)

abbrev pub has_piece : List Piece → Piece → Bool
has_piece pieces q = list_any (is_at (piece_cmp q)) pieces

abbrev pub is_among : Block → List Block → Bool
is_among x xs = list_any (λ y. is_at (block_cmp y) x) xs

-- a piece of the pair p, at the block x
abbrev pub is_at_block : Block → RangePair → Piece → Bool
is_at_block x p q = is_at (block_cmp q.0) x && is_same q.1.pair p

-- a piece of the pair m, at one of the blocks
abbrev pub is_piece : List Block → Numbered → Piece → Bool
is_piece xs m q = is_one m q.1 && is_among q.0 xs

-- the cell r of the pair reads the cell a
abbrev pub pair_reads : ℕ → ℕ → RangePair → Bool
pair_reads a r p = is_within (pair_area p) a && (p.reader == r)

-- that of the piece does
abbrev pub piece_reads : ℕ → ℕ → Piece → Bool
piece_reads a r q = pair_reads a r q.1.pair

-- the piece stands at one of the blocks, and its cell r reads the cell a
abbrev pub reads_at : List Block → ℕ → ℕ → Piece → Bool
reads_at xs a r q = is_among q.0 xs && piece_reads a r q

-- some cell of a piece at one of the blocks reads the cell a
abbrev pub IsReadAt : List Block → ℕ → List Piece → Type 0
IsReadAt xs a pieces = (r : ℕ) × (list_any (reads_at xs a r) pieces ≡ true)

abbrev pub HasPieces : List Block → Numbered → List Piece → Type 0
HasPieces xs m pieces = (q : Piece) → is_piece xs m q ≡ true → has_piece pieces q ≡ true

abbrev pub LacksPieces : List Block → Numbered → List Piece → Type 0
LacksPieces xs m pieces = (q : Piece) → is_piece xs m q ≡ true → has_piece pieces q ≡ false

-- no piece stands at a block above the level
abbrev pub AreUpTo : ℕ → List Piece → Type 0
AreUpTo level pieces = All (λ (q : Piece). q.0.level ≤ level) pieces

-- whether the block holds the row r
abbrev pub holds : ℕ → Block → Bool
holds r x = nat_le x.first r && nat_lt r (x.first + 2 ^ x.level)

-- the block of the piece holds the first row of its rectangle, as one block of each pair does
abbrev pub stands_first : Piece → Bool
stands_first q = holds (first_row q.1.pair) q.0

-- the bag of the pairs that stand in the index, each told by its first piece
abbrev pub bag_of : List Piece → Bag
bag_of [] = []
bag_of (q ∷ qs) = if stands_first q then raise q.1.pair (bag_of qs) else bag_of qs

-- each pair of the bag, by numbers from 0 on, is there at each of its blocks, and nothing else is
abbrev pub IsIndexed : Bag → List Piece → Type 0
IsIndexed bag pieces = (q : Piece) → has_piece pieces q ≡ (nat_lt q.1.number (count_of bag q.1.pair) && is_among q.0 (blocks_of q.1.pair))

-- pieces stand in order, each once, and are as many as the blocks of all pairs
abbrev pub AreCounted : Bag → List Piece → Type 0
AreCounted bag pieces = IsStrictlySortedBy piece_cmp pieces × (length pieces ≡ pieces_of bag)

-- the pieces are those of the pairs that they tell
abbrev pub AreWhole : List Piece → Type 0
AreWhole pieces = IsIndexed (bag_of pieces) pieces × AreCounted (bag_of pieces) pieces

-- only pieces of the pair m at its blocks may differ
abbrev pub KeepsOtherPieces : Numbered → List Piece → List Piece → Type 0
KeepsOtherPieces m old new = (q : Piece) → is_piece (blocks_of m.pair) m q ≡ false → has_piece new q ≡ has_piece old q

-- the pieces that were there, and those of the pair m at some blocks: whatever is added up over them
abbrev pub Gains : List Block → Numbered → List Piece → List Piece → Type 0
Gains xs m old new = (f : Piece → ℕ) → sum_by f new ≡ sum_by f old + sum_by (λ x. f (x, m)) xs

-- The pair m was put in at some blocks, or at a part of them where memory ran out, and not all of it was there then. No
-- other piece came or went.
pub record PutsPieces (xs : List Block) (m : Numbered) (result : Result (Unit {0}) AllocError) (old new : List Piece) : Type 0 where
  pub put : OnOk result (HasPieces xs m new)
  pub kept : (q : Piece) → is_piece xs m q ≡ false → has_piece new q ≡ has_piece old q
  pub stays : (q : Piece) → has_piece old q ≡ true → has_piece new q ≡ true
  pub order : IsStrictlySortedBy piece_cmp old → IsStrictlySortedBy piece_cmp new
  pub absent : OnErr result (HasPieces xs m old → ⊥)
  pub gains : OnOk result (LacksPieces xs m old → Gains xs m old new)

-- the pair m was taken out at some blocks, and no other piece
pub record TakesPieces (xs : List Block) (m : Numbered) (old new : List Piece) : Type 0 where
  pub taken : LacksPieces xs m new
  pub kept : (q : Piece) → is_piece xs m q ≡ false → has_piece new q ≡ has_piece old q
  pub gone : (q : Piece) → has_piece old q ≡ false → has_piece new q ≡ false
  pub order : IsStrictlySortedBy piece_cmp old → IsStrictlySortedBy piece_cmp new
  pub loses : HasPieces xs m old → Gains xs m new old

-- a pair may be added by its number, within a block that has all its blocks
pub record MayAdd (m : Numbered) (around : Block) (pieces : List Piece) : Type 0 where
  pub whole : AreWhole pieces
  pub number : m.number ≤ count_of (bag_of pieces) m.pair
  pub blocks : blocks_in m.pair around ≡ blocks_of m.pair
  pub on_sheet : around.first + 2 ^ around.level ≤ rows
  pub row : first_row m.pair < rows

-- the pair was added if there was none of its number
pub record AddsNumbered (m : Numbered) (result : Result Bool AllocError) (old new : List Piece) : Type 0 where
  pub added : IfOk result (λ added. added ≡ not (nat_lt m.number (count_of (bag_of old) m.pair)))
  pub more : IfOk result (λ added. IsTrue added → HasOneMore m.pair (bag_of old) (bag_of new))
  pub same : IfOk result (λ added. added ≡ false → bag_of new ≡ bag_of old)
  pub whole : AreWhole new
  pub err : OnErr result (bag_of new ≡ bag_of old)

-- one pair more was added, or all is as before
pub record AddsPair (p : RangePair) (result : Result (Unit {0}) AllocError) (old new : List Piece) : Type 0 where
  pub more : OnOk result (HasOneMore p (bag_of old) (bag_of new))
  pub whole : AreWhole new
  pub err : OnErr result (bag_of new ≡ bag_of old)
