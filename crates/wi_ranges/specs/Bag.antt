-- A bag of pairs, each a rectangle and a cell that reads it.
use Rattle.std.specs.Prelude.{◌≡◌, ℕ, ◌+◌, ◌-◌, ◌*◌, ◌<◌, List, [], ◌∷◌, Bool, true, length, if◌then◌else◌}
use Rattle.std.specs.Ordering.{nat_cmp, ordering_then}
use Rattle.std.specs.declared.cmp.Ordering.{Ordering}
use Rattle.std.specs.Option.{unwrap_or}
use Rattle.std.specs.Map.{lookup}
use Rattle.std.specs.BTreeMap.{is_at}
use Rattle.wi_values.specs.Address.{Area, is_within}
use Rattle.wi_ranges.specs.Blocks.{blocks_of}
use Rattle.wi_ranges.specs.declared.pair.RangePair.{RangePair}

abbrev pub pair_for : Area → ℕ → RangePair
pair_for area reader = record { first = area.first; last = area.last; reader = reader }

abbrev pub pair_area : RangePair → Area
pair_area p = record { first = p.first; last = p.last }

abbrev pub lowest_pair : RangePair
lowest_pair = record { first = 0; last = 0; reader = 0 }

-- pairs stand by the corners of the rectangle, and then by the reader
abbrev pub pair_cmp : RangePair → RangePair → Ordering
pair_cmp p q = ordering_then (nat_cmp p.first q.first) (ordering_then (nat_cmp p.last q.last) (nat_cmp p.reader q.reader))

abbrev pub is_same : RangePair → RangePair → Bool
is_same p q = is_at (pair_cmp p) q

-- how many there are of each pair; those of which there is none have no entry
abbrev pub Bag : Type 0
Bag = List (RangePair × ℕ)

abbrev pub count_of : Bag → RangePair → ℕ
count_of bag p = unwrap_or (lookup (is_same p) bag) 0

-- the bag with one more of the pair p
abbrev pub raise : RangePair → Bag → Bag
raise p [] = (p, 1) ∷ []
raise p (e ∷ es) = if is_same p e.0 then (e.0, e.1 + 1) ∷ es else e ∷ raise p es

-- new has one more of the pair p than old, and as many of each other
abbrev pub HasOneMore : RangePair → Bag → Bag → Type 0
HasOneMore p old new = (q : RangePair) → count_of new q ≡ (if is_same p q then count_of old q + 1 else count_of old q)

-- new has one less of the pair p than old if there is one, and as many of each other
abbrev pub HasOneLess : RangePair → Bag → Bag → Type 0
HasOneLess p old new = (q : RangePair) → count_of new q ≡ (if is_same p q then count_of old q - 1 else count_of old q)

-- the cell r reads a rectangle that has the cell a
abbrev pub IsReader : Bag → ℕ → ℕ → Type 0
IsReader bag a r = (p : RangePair) × (p.reader ≡ r) × (0 < count_of bag p) × (is_within (pair_area p) a ≡ true)

-- some cell does
abbrev pub IsRead : Bag → ℕ → Type 0
IsRead bag a = (r : ℕ) × IsReader bag a r

-- how many blocks all pairs have
abbrev pub pieces_of : Bag → ℕ
pieces_of [] = 0
pieces_of (e ∷ es) = e.1 * length (blocks_of e.0) + pieces_of es
