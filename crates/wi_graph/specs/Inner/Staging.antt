-- What is brought in.
use Rattle.std.specs.Prelude.{◌≡◌, ◌+◌, ℕ, [], ◌∷◌}
use Rattle.wi_ranges.specs.declared.pair.RangePair.{RangePair}
use Rattle.wi_ranges.specs.Bag.{Bag, count_of}
use Rattle.wi_graph.specs.Inner.Rooms.{Rooms, Coming, items_of, areas_of, times, times_in}

-- how many of the rectangles in some rooms make this pair, each with the cell of its room
abbrev pub times_among : Coming → RangePair → ℕ
times_among [] p = 0
times_among (e ∷ es) p = times e.0 (areas_of (items_of e.1)) p + times_among es p

-- the index has the pairs of the formulas, and those of some rooms
abbrev pub HasThese : Bag → Rooms → Coming → Type 0
HasThese readers rooms es = (p : RangePair) → count_of readers p ≡ times_in rooms p + times_among es p
