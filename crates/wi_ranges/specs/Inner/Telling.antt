-- A search for the readers of one cell after another, which tells of each rectangle once.
use Rattle.std.specs.Prelude.{◌≡◌, ◌⊎◌, ℕ, Bool, true, false, not, ◌&&◌, ◌==◌, List, filter, map, Option, Some, None}
use Rattle.std.specs.Ordering.{nat_cmp}
use Rattle.std.specs.Global.{Vec}
use Rattle.std.specs.List.{list_any}
use Rattle.std.specs.BTreeMap.{BTreeMap, get, is_at}
use Rattle.std.specs.BTreeSet.{BTreeSet, contains}
use Rattle.wi_values.specs.Address.{is_one_of, is_within}
use Rattle.wi_ranges.specs.Bag.{Bag, IsReader, pair_area}
use Rattle.wi_ranges.specs.declared.block.Block.{Block}
use Rattle.wi_ranges.specs.declared.pair.RangePair.{RangePair}
use Rattle.wi_ranges.specs.declared.pair.Numbered.{Numbered}
use Rattle.wi_ranges.specs.Inner.Index.{Piece, block_cmp, has_piece, is_among, reads_at}

-- the pairs that are searched, and the readers that were told so far, by which a later answer may be the shorter
pub record Telling : Type 0 where
  pub bag : Bag
  pub told : List ℕ

abbrev pub telling : Bag → List ℕ → Telling
telling bag told = record { bag = bag; told = told }

-- two pairs of one rectangle
abbrev pub is_same_area : RangePair → RangePair → Bool
is_same_area p q = (p.first == q.first) && (p.last == q.last)

-- one of the pairs is of the rectangle of p
abbrev pub has_area : List RangePair → RangePair → Bool
has_area ps p = list_any (λ x. is_same_area x p) ps

-- the piece stands at the block, and is of the rectangle of the pair p
abbrev pub stands_for : Block → RangePair → Piece → Bool
stands_for x p q = is_at (block_cmp x) q.0 && is_same_area q.1.pair p

-- and its reader is the cell r
abbrev pub reads_for : Block → RangePair → ℕ → Piece → Bool
reads_for x p r q = stands_for x p q && (q.1.pair.reader == r)

-- the first of the numbered pairs of a pair's rectangle
abbrev pub first_for : RangePair → Numbered
first_for p = record { pair = record { first = p.first; last = p.last; reader = 0 }; number = 0 }

-- the piece stands at the block, and its rectangle isn't one of those that are left there
abbrev pub is_gone : Block → List RangePair → Piece → Bool
is_gone x left q = is_at (block_cmp x) q.0 && not (has_area left q.1.pair)

-- rectangles that are left, each by a pair, at the blocks that were looked at
abbrev pub Left : Type 0
Left = BTreeMap Block (Vec RangePair)

abbrev pub lacks : Option (Vec RangePair) → RangePair → Bool
lacks None p = false
lacks (Some left) p = not (has_area left.items p)

-- the block of the piece was looked at, and its rectangle isn't left there
abbrev pub was_told : Left → Piece → Bool
was_told left q = lacks (get block_cmp left q.0) q.1.pair

-- the readers of those pieces of which a test says that they were told
abbrev pub readers_by : (Piece → Bool) → List Piece → List ℕ
readers_by t pieces = map (λ q. q.1.pair.reader) (filter t pieces)

abbrev pub readers_told : Left → List Piece → List ℕ
readers_told left pieces = readers_by (was_told left) pieces

-- no piece was told
abbrev pub untold : Piece → Bool
untold q = false

-- The readers of the cell a that stand at some blocks were put into a set, but for those that s says were told. What t
-- says was told is that, or in the set.
pub record Tells (pieces : List Piece) (xs : List Block) (a : ℕ) (s t : Piece → Bool) (old new : BTreeSet ℕ) : Type 0 where
  pub stays : (r : ℕ) → contains nat_cmp old r ≡ true → contains nat_cmp new r ≡ true
  pub only : (r : ℕ) → contains nat_cmp new r ≡ true → (contains nat_cmp old r ≡ true) ⊎ (list_any (reads_at xs a r) pieces ≡ true)
  pub all : (q : Piece) → has_piece pieces q ≡ true → is_among q.0 xs ≡ true → is_within (pair_area q.1.pair) a ≡ true → (contains nat_cmp new q.1.pair.reader ≡ true) ⊎ (s q ≡ true)
  pub told : (q : Piece) → has_piece pieces q ≡ true → t q ≡ true → (s q ≡ true) ⊎ (contains nat_cmp new q.1.pair.reader ≡ true)

-- as `Tells`, of readers
pub record TellsReaders (pieces : List Piece) (xs : List Block) (a : ℕ) (s t : Piece → Bool) (old new : BTreeSet ℕ) : Type 0 where
  pub stays : (r : ℕ) → contains nat_cmp old r ≡ true → contains nat_cmp new r ≡ true
  pub only : (r : ℕ) → contains nat_cmp new r ≡ true → (contains nat_cmp old r ≡ true) ⊎ (list_any (reads_at xs a r) pieces ≡ true)
  pub all : (r : ℕ) → list_any (reads_at xs a r) pieces ≡ true → (contains nat_cmp new r ≡ true) ⊎ (is_one_of (readers_by s pieces) r ≡ true)
  pub told : (r : ℕ) → is_one_of (readers_by t pieces) r ≡ true → (is_one_of (readers_by s pieces) r ≡ true) ⊎ (contains nat_cmp new r ≡ true)

-- a search was asked for the readers of the cell a: it told some, and each other was told before
pub record Answers (old new : Telling) (a : ℕ) (readers : List ℕ) : Type 0 where
  pub bag : new.bag ≡ old.bag
  pub only : (r : ℕ) → is_one_of readers r ≡ true → IsReader old.bag a r
  pub all : (r : ℕ) → IsReader old.bag a r → (is_one_of readers r ≡ true) ⊎ (is_one_of old.told r ≡ true)
  pub told : (r : ℕ) → is_one_of new.told r ≡ true → (is_one_of old.told r ≡ true) ⊎ (is_one_of readers r ≡ true)
