-- A search among what a cell reads, at any remove, for that cell.
use Rattle.std.specs.Prelude.{◌≡◌, ◌==◌, ◌⊎◌, ◌<◌, ◌&&◌, ◌||◌, ℕ, Bool, true, false, List, [], ◌∷◌, Option, None, is_some, nat_le}
use Rattle.std.specs.List.{list_any}
use Rattle.std.specs.Ordering.{nat_cmp}
use Rattle.std.specs.BTreeSet.{BTreeSet}
use Rattle.smallvec.specs.SmallVec.{SmallVec}
use Rattle.wi_values.specs.Address.{Area, is_within, is_within_one}
use Rattle.wi_tiles.specs.Entries.{CellEntries, get}
use Rattle.wi_graph.specs.Inner.Rooms.{Rooms, Coming, room_at, items_of, areas_of}
use Rattle.wi_graph.specs.Inner.Turning.{meets_one_of}
use Rattle.wi_graph.specs.declared.below.Below.{Below}

-- d is in one of the rectangles, at the cell from which on it is still to be looked at, or after it
abbrev pub is_ahead : List (Area × ℕ) → ℕ → Bool
is_ahead ahead d = list_any (λ (t : Area × ℕ). is_within t.0 d && nat_le t.1 d) ahead

-- the cell was found
abbrev pub has_visited : {X : Type 0} → CellEntries X → ℕ → Bool
has_visited cells d = is_some (get nat_cmp cells d)

-- rectangles that don't have the cell were put ahead
pub record HasAreas (cell : ℕ) (areas : List Area) (old new : List (Area × ℕ)) : Type 0 where
  pub more : (d : ℕ) → is_ahead new d ≡ (is_ahead old d || is_within_one areas d)
  pub apart : is_within_one areas cell ≡ false

-- what of a rectangle comes after a cell was put ahead
pub record HasRest (area : Area) (read : ℕ) (old new : List (Area × ℕ)) : Type 0 where
  pub stays : (d : ℕ) → is_ahead old d ≡ true → is_ahead new d ≡ true
  pub rest : (d : ℕ) → is_within area d ≡ true → read < d → is_ahead new d ≡ true
  pub within : (d : ℕ) → is_ahead new d ≡ true → (is_ahead old d ≡ true) ⊎ ((is_within area d ≡ true) × (read < d))

-- d isn't the cell, and it has no formula, or was found, or is still to be looked at
abbrev pub IsLookedAt : Rooms → ℕ → (ℕ → Bool) → List (Area × ℕ) → ℕ → Type 0
IsLookedAt rooms cell visited ahead d = ((cell == d) ≡ false) × ((room_at rooms d ≡ None) ⊎ ((visited d ≡ true) ⊎ (is_ahead ahead d ≡ true)))

-- so it is of each cell of these rectangles, and of each that a cell reads which was found
pub record IsSearchingBelow (rooms : Rooms) (cell : ℕ) (areas : List Area) (visited : ℕ → Bool) (ahead : List (Area × ℕ)) : Type 0 where
  pub first : (d : ℕ) → is_within_one areas d ≡ true → IsLookedAt rooms cell visited ahead d
  pub reads : (e d : ℕ) → visited e ≡ true → is_within_one (areas_of (room_at rooms e)) d ≡ true → IsLookedAt rooms cell visited ahead d
  pub apart : (e : ℕ) → visited e ≡ true → (cell == e) ≡ false
  pub apart_ahead : (d : ℕ) → is_ahead ahead d ≡ true → (cell == d) ≡ false

-- the cell was found, or is one of the known ones
abbrev pub is_passed : {X : Type 0} → CellEntries X → (ℕ → Bool) → ℕ → Bool
is_passed cells known d = has_visited cells d || known d

-- while the cell wasn't met
abbrev pub IsBelow : Rooms → ℕ → List Area → (ℕ → Bool) → Below → Type 0
IsBelow rooms cell areas known below = below.clear ≡ true → IsSearchingBelow rooms cell areas (is_passed below.visited known) below.ahead.items

-- what was found, and what is still to be looked at, is known, or has no formula
pub record AreFound (rooms : Rooms) (cell : ℕ) (known visited : ℕ → Bool) (ahead : List (Area × ℕ)) : Type 0 where
  pub found : (e : ℕ) → visited e ≡ true → IsLookedAt rooms cell known [] e
  pub to_come : (d : ℕ) → is_ahead ahead d ≡ true → IsLookedAt rooms cell known [] d

-- while the cell wasn't met
abbrev pub IsFinding : Rooms → ℕ → (ℕ → Bool) → Below → Type 0
IsFinding rooms cell known below = below.clear ≡ true → AreFound rooms cell known (has_visited below.visited) below.ahead.items

-- all was looked at
abbrev pub ReachesNot : Rooms → ℕ → List Area → Type 0
ReachesNot rooms cell areas = (visited : ℕ → Bool) × IsSearchingBelow rooms cell areas visited []

-- something is next for one cell, which isn't circular; what it reads then, at any remove, isn't circular and isn't the
-- cell
pub record ReadsApart (rooms : Rooms) (next : Coming) (cyclic : BTreeSet ℕ) : Type 0 where
  pub cell : ℕ
  pub room : Option (SmallVec Area)
  pub alone : next ≡ (cell, room) ∷ []
  pub unmet : meets_one_of next cyclic ≡ false
  pub not_met : ReachesNot rooms cell (areas_of (items_of room))
