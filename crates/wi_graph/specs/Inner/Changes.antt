-- What an edit brings.
use Rattle.std.specs.Prelude.{◌≡◌, ◌==◌, ◌&&◌, ℕ, Bool, cond, not, List, [], ◌∷◌, Option, filter}
use Rattle.std.specs.Ordering.{nat_cmp}
use Rattle.std.specs.Map.{keys_of}
use Rattle.std.specs.BTreeSet.{BTreeSet, contains}
use Rattle.wi_values.specs.Address.{Area}
use Rattle.wi_parser.specs.declared.content.Content.{Content}
use Rattle.wi_parser.specs.Sheet.{Sheet, content_of}
use Rattle.wi_graph.specs.Reach.{in_cone}
use Rattle.wi_graph.specs.Edges.{areas_in}
use Rattle.wi_graph.specs.Inner.Rooms.{Rooms, Coming, room_at, room_over, AreInOrder}

-- what a cell reads after the changes, that read this before them
abbrev pub areas_then : List (ℕ × Option Content) → ℕ → Option (List Area) → Option (List Area)
areas_then [] c o = o
areas_then (x ∷ xs) c o = areas_then xs c (cond (c == x.0) (areas_in x.1) o)

-- once the next are put in, each cell reads what it reads after the changes
abbrev pub Brings : Rooms → Coming → List (ℕ × Option Content) → Type 0
Brings rooms next changes = (c : ℕ) → room_over next rooms c ≡ areas_then changes c (room_at rooms c)

-- each cell reads once the next are put in what it read before
abbrev pub ReadsStay : Rooms → Coming → Type 0
ReadsStay rooms next = (c : ℕ) → room_over next rooms c ≡ room_at rooms c

-- the test finds the cone of an edit that brings the next
pub record IsEditCone (rooms : Rooms) (next : Coming) (test : ℕ → Bool) : Type 0 where
  pub order : AreInOrder next
  pub changes : List (ℕ × Option Content)
  pub brings : Brings rooms next changes
  pub is_cone : (s : Sheet) → ((c : ℕ) → room_at rooms c ≡ areas_in (content_of s c)) → (c : ℕ) → test c ≡ in_cone s (keys_of changes) c

-- the circular cells of a cone that are not among the rest
abbrev pub ceased_from : BTreeSet ℕ → BTreeSet ℕ → BTreeSet ℕ → List ℕ
ceased_from cyclic cells rest = filter (λ c. contains nat_cmp cyclic c && not (contains nat_cmp rest c)) cells.keys
