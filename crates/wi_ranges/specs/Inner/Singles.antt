-- The pairs of one cell, by their cells.
use Rattle.std.specs.Prelude.{◌≡◌, ℕ, ◌+◌, ◌≤◌, ◌^◌, true, List, [], ◌∷◌, map, length}
use Rattle.std.specs.List.{flat_map, list_any, sum_by}
use Rattle.wi_ranges.specs.Blocks.{blocks_of}
use Rattle.wi_ranges.specs.Bag.{Bag, raise}
use Rattle.wi_ranges.specs.Inner.Index.{pair_reads}
use Rattle.wi_ranges.specs.declared.pair.RangePair.{RangePair}

-- the cell r reads the cell a
abbrev pub single_pair : ℕ → ℕ → RangePair
single_pair a r = record { first = a; last = a; reader = r }

abbrev pub pairs_at : ℕ → List ℕ → List RangePair
pairs_at a rs = map (λ r. single_pair a r) rs

-- the pairs that the readers by cell are
abbrev pub pairs_of : List (ℕ × List ℕ) → List RangePair
pairs_of es = flat_map (λ e. pairs_at e.0 e.1) es

-- some cell of these pairs reads the cell a
abbrev pub HasPairOf : ℕ → List RangePair → Type 0
HasPairOf a ps = (r : ℕ) × (list_any (pair_reads a r) ps ≡ true)

-- the pairs old, and p once more, in any order: whatever is added up over them
abbrev pub HasPairMore : RangePair → List RangePair → List RangePair → Type 0
HasPairMore p old new = (f : RangePair → ℕ) → sum_by f new ≡ sum_by f old + f p

-- how many blocks the pairs have together
abbrev pub blocks_in_all : List RangePair → ℕ
blocks_in_all ps = sum_by (λ p. length (blocks_of p)) ps

-- the bag with these pairs too
abbrev pub with_pairs : List RangePair → Bag → Bag
with_pairs [] bag = bag
with_pairs (p ∷ ps) bag = raise p (with_pairs ps bag)

-- the count is that of the blocks of all pairs, and fits
abbrev pub AreByCell : ℕ → List (ℕ × List ℕ) → Type 0
AreByCell count es = (count ≡ blocks_in_all (pairs_of es)) × (count ≤ 2 ^ 62)
