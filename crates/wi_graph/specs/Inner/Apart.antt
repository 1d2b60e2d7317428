-- Edits apart from watched cells.
use Rattle.std.specs.Prelude.{◌≡◌, ◌<◌, ◌≤◌, ⊤, ℕ, Bool, true, false, List, Option, Some, None, IfSome}
use Rattle.smallvec.specs.SmallVec.{SmallVec}
use Rattle.wi_values.specs.Address.{Area, is_within, is_within_one}
use Rattle.wi_graph.specs.Inner.Rooms.{Rooms, areas_of, items_of, room_at}

-- no cell of the rectangle passes the test
abbrev pub HasNone : (ℕ → Bool) → Area → Type 0
HasNone p r = (d : ℕ) → is_within r d ≡ true → p d ≡ false

-- no cell of these rectangles passes the test
abbrev pub HaveNone : (ℕ → Bool) → List Area → Type 0
HaveNone p rs = (d : ℕ) → is_within_one rs d ≡ true → p d ≡ false

-- the cell of the entry reads none that passes the test, as it stands and with what the entry brings
pub record IsApart (p : ℕ → Bool) (rooms : Rooms) (entry : ℕ × Option (SmallVec Area)) : Type 0 where
  pub before : HaveNone p (areas_of (room_at rooms entry.0))
  pub after : HaveNone p (areas_of (items_of entry.1))

-- the cell d comes before the one ahead; where there is none, each does
abbrev pub ComesBefore : Option ℕ → ℕ → Type 0
ComesBefore None d = ⊤
ComesBefore (Some a) d = d < a

-- the cells of the rectangle before the one ahead don't pass the test
pub record AreLookedAt (p : ℕ → Bool) (r : Area) (ahead : Option ℕ) : Type 0 where
  pub within : IfSome ahead (λ a. a ≤ r.last)
  pub none : (d : ℕ) → is_within r d ≡ true → ComesBefore ahead d → p d ≡ false
