-- Rooms for the rectangles that formulas read. A room is vacant only while an edit is staged.
use Rattle.std.specs.Prelude.{◌≡◌, ◌+◌, ℕ, Bool, ◌&&◌, not, List, [], ◌∷◌, Option, Some, None, if◌then◌else◌}
use Rattle.std.specs.Ordering.{nat_cmp}
use Rattle.std.specs.List.Sorted.{IsStrictlySortedBy}
use Rattle.std.specs.Map.{keys_of, lookup}
use Rattle.std.specs.BTreeMap.{is_at}
use Rattle.std.specs.BTreeSet.{BTreeSet, contains}
use Rattle.smallvec.specs.SmallVec.{SmallVec}
use Rattle.wi_values.specs.Address.{Area, is_one_of}
use Rattle.wi_tiles.specs.Entries.{CellEntries, get, IsOrdered}
use Rattle.wi_parser.specs.Sheet.{Sheet, content_of}
use Rattle.wi_ranges.specs.declared.pair.RangePair.{RangePair}
use Rattle.wi_ranges.specs.Bag.{Bag, pair_for, is_same, count_of}
use Rattle.wi_graph.specs.Circular.{circular}
use Rattle.wi_graph.specs.Edges.{Edges, areas_in, with_areas}
use Rattle.wi_graph.specs.declared.turning.Turns.{Turns}

-- the rectangles that formulas read, by their cells; a vacant room has no formula
abbrev pub Rooms : Type 0
Rooms = CellEntries (Option (SmallVec Area))

-- what an edit brings, by its cells
abbrev pub Coming : Type 0
Coming = List (ℕ × Option (SmallVec Area))

-- the rectangles in a room, as a list
abbrev pub items_of : Option (SmallVec Area) → Option (List Area)
items_of None = None
items_of (Some v) = Some v.items

abbrev pub in_room : Option (Option (SmallVec Area)) → Option (List Area)
in_room None = None
in_room (Some o) = items_of o

-- what the formula of a cell reads, if it has one
abbrev pub room_at : Rooms → ℕ → Option (List Area)
room_at rooms c = in_room (get nat_cmp rooms c)

-- each cell once, in row-major order
abbrev pub AreInOrder : Coming → Type 0
AreInOrder next = IsStrictlySortedBy nat_cmp (keys_of next)

-- what an edit brings for a cell, if it names it
abbrev pub brought_to : Coming → ℕ → Option (Option (SmallVec Area))
brought_to next c = lookup (is_at (nat_cmp c)) next

-- what the formula reads that it brings, if it brings one
abbrev pub coming_at : Coming → ℕ → Option (List Area)
coming_at next c = in_room (brought_to next c)

-- what is put in counts, where something is
abbrev pub put_over : Option (Option (SmallVec Area)) → Option (List Area) → Option (List Area)
put_over None o = o
put_over (Some x) o = items_of x

-- and once the next are put in
abbrev pub room_over : Coming → Rooms → ℕ → Option (List Area)
room_over next rooms c = put_over (brought_to next c) (room_at rooms c)

abbrev pub with_room : ℕ → Option (SmallVec Area) → Edges → Edges
with_room c None es = es
with_room c (Some v) es = (c, v.items) ∷ es

-- what the rooms are seen as
abbrev pub edges_in : List (ℕ × Option (SmallVec Area)) → Edges
edges_in [] = []
edges_in (e ∷ es) = with_room e.0 e.1 (edges_in es)

-- the edges with what is put in
abbrev pub edges_over : Edges → Coming → Edges
edges_over es [] = es
edges_over es (x ∷ xs) = with_areas (edges_over es xs) x.0 (items_of x.1)

-- nothing is next for a cell that goes on reading what it reads
abbrev pub HasNoIdle : Rooms → Coming → Type 0
HasNoIdle rooms next = (c : ℕ) → coming_at next c ≡ room_at rooms c → brought_to next c ≡ None

-- no rectangles where there is no formula
abbrev pub areas_of : Option (List Area) → List Area
areas_of None = []
areas_of (Some rs) = rs

-- how many of the rectangles make this pair with the cell
abbrev pub times : ℕ → List Area → RangePair → ℕ
times c [] p = 0
times c (r ∷ rs) p = (if is_same (pair_for r c) p then 1 else 0) + times c rs p

-- how often the pair's cell reads its rectangle
abbrev pub times_in : Rooms → RangePair → ℕ
times_in rooms p = times p.reader (areas_of (room_at rooms p.reader)) p

-- how often an edit brings it so that it does
abbrev pub times_coming : Coming → RangePair → ℕ
times_coming next p = times p.reader (areas_of (coming_at next p.reader)) p

-- each that is put in has a room
abbrev pub HasRooms : Rooms → Coming → Type 0
HasRooms rooms next = (c : ℕ) → get nat_cmp rooms c ≡ None → coming_at next c ≡ None

-- the index has the pairs of the formulas
abbrev pub HasPairs : Bag → Rooms → Type 0
HasPairs readers rooms = (p : RangePair) → count_of readers p ≡ times_in rooms p

-- and those of the next
abbrev pub HasBoth : Bag → Rooms → Coming → Type 0
HasBoth readers rooms next = (p : RangePair) → count_of readers p ≡ times_in rooms p + times_coming next p

-- one of the set and none of the list
abbrev pub less_these : BTreeSet ℕ → List ℕ → ℕ → Bool
less_these set xs c = contains nat_cmp set c && not (is_one_of xs c)

-- the test finds the circular cells where formulas read this
pub record AreCyclic (f : ℕ → Option (List Area)) (test : ℕ → Bool) : Type 0 where
  pub sheet : Sheet
  pub are : (c : ℕ) → f c ≡ areas_in (content_of sheet c)
  pub cyclic : (c : ℕ) → test c ≡ circular sheet c

-- nothing is staged: the index has the pairs of the rooms, and the set their circular cells
pub record IsGraph (rooms : Rooms) (readers : Bag) (cyclic : BTreeSet ℕ) : Type 0 where
  pub ordered : IsOrdered nat_cmp rooms
  pub pairs : HasPairs readers rooms
  pub circular : AreCyclic (room_at rooms) (contains nat_cmp cyclic)

-- the set has the cells that are circular before or after
pub record IsStaged (rooms : Rooms) (next : Coming) (readers : Bag) (cyclic : BTreeSet ℕ) (turns : Turns) : Type 0 where
  pub ordered : IsOrdered nat_cmp rooms
  pub order : AreInOrder next
  pub no_idle : HasNoIdle rooms next
  pub has_rooms : HasRooms rooms next
  pub pairs : HasBoth readers rooms next
  pub before : AreCyclic (room_at rooms) (less_these cyclic turns.became.items)
  pub after : AreCyclic (room_over next rooms) (less_these cyclic turns.ceased.items)
