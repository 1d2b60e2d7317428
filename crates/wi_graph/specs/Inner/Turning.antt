-- Which cells of a cone turn circular.
use Rattle.std.specs.Prelude.{◌≡◌, ◌&&◌, ◌||◌, ℕ, Bool, true, false, cond, not, List, Option, Some, None}
use Rattle.std.specs.List.{list_any}
use Rattle.std.specs.Map.{keys_of}
use Rattle.std.specs.Ordering.{nat_cmp}
use Rattle.std.specs.Global.{Vec}
use Rattle.std.specs.BTreeMap.{BTreeMap, get}
use Rattle.std.specs.BTreeSet.{BTreeSet, contains}
use Rattle.smallvec.specs.SmallVec.{SmallVec}
use Rattle.wi_values.specs.Address.{Area, is_one_of, is_within, is_within_one}
use Rattle.wi_parser.specs.Sheet.{Sheet, content_of}
use Rattle.wi_graph.specs.Circular.{circular}
use Rattle.wi_graph.specs.Reach.{SameOff, in_cone}
use Rattle.wi_graph.specs.Edges.{areas_in}
use Rattle.wi_graph.specs.Inner.Stripping.{items_there}
use Rattle.wi_graph.specs.Inner.Rooms.{Rooms, Coming, brought_to, items_of, areas_of, room_over, AreCyclic}
use Rattle.wi_graph.specs.declared.turning.Turns.{Turns}

-- the rectangle has one of the circular cells outside the cone
abbrev pub has_cyclic_outside : BTreeSet ℕ → BTreeSet ℕ → Area → Bool
has_cyclic_outside cyclic cells r = list_any (λ d. is_within r d && not (contains nat_cmp cells d)) cyclic.keys

-- c reads one of the circular cells outside the cone
abbrev pub reads_outside : BTreeMap ℕ (Vec Area) → BTreeSet ℕ → BTreeSet ℕ → ℕ → Bool
reads_outside reads cyclic cells c = list_any (has_cyclic_outside cyclic cells) (items_there (get nat_cmp reads c))

-- what is next reads the cell
abbrev pub reads_cell : Coming → ℕ → Bool
reads_cell es c = list_any (λ e. is_within_one (areas_of (items_of e.1)) c) es

-- the rectangle has one of the cells
abbrev pub has_one : BTreeSet ℕ → Area → Bool
has_one cells r = list_any (is_within r) cells.keys

-- what is next reads one of the cells
abbrev pub reads_one_of : Coming → BTreeSet ℕ → Bool
reads_one_of es cells = list_any (λ e. list_any (has_one cells) (areas_of (items_of e.1))) es

-- what is next is for one of the cells, or reads one
abbrev pub meets_one_of : Coming → BTreeSet ℕ → Bool
meets_one_of es cells = list_any (λ e. contains nat_cmp cells e.0 || list_any (has_one cells) (areas_of (items_of e.1))) es

-- the rectangle has a cell, or one with something in its room
abbrev pub has_room_in : Rooms → ℕ → Area → Bool
has_room_in rooms cell r = is_within r cell || list_any (is_within r) (keys_of rooms.entries)

-- each cell that gets something else isn't circular, and reads no formula then
abbrev pub StandsApart : Rooms → Coming → BTreeSet ℕ → Type 0
StandsApart rooms next cyclic = (c : ℕ) (v : Option (SmallVec Area)) → brought_to next c ≡ Some v → (contains nat_cmp cyclic c ≡ false) × ((d : ℕ) → is_within_one (areas_of (items_of v)) d ≡ true → room_over next rooms d ≡ None)

-- the cell was circular or became so, and did not cease to be
abbrev pub turned_by : BTreeSet ℕ → Turns → ℕ → Bool
turned_by cyclic turns c = (contains nat_cmp cyclic c || is_one_of turns.became.items c) && not (is_one_of turns.ceased.items c)

-- with these turns the circular cells are those after what is next is put in
pub record AreTurns (rooms : Rooms) (next : Coming) (cyclic : BTreeSet ℕ) (turns : Turns) : Type 0 where
  pub fresh : (c : ℕ) → is_one_of turns.became.items c ≡ true → contains nat_cmp cyclic c ≡ false
  pub after : AreCyclic (room_over next rooms) (turned_by cyclic turns)

-- of each edit that brings what is next, the cells of the cone that are left are circular after it
abbrev pub FindsCyclic : Rooms → Coming → BTreeSet ℕ → BTreeSet ℕ → BTreeSet ℕ → Type 0
FindsCyclic rooms next cyclic cells rest = (s t : Sheet) (xs : List ℕ) → SameOff s t xs →
    ((c : ℕ) → room_over next rooms c ≡ areas_in (content_of t c)) →
    ((c : ℕ) → contains nat_cmp cyclic c ≡ circular s c) →
    ((c : ℕ) → contains nat_cmp cells c ≡ in_cone s xs c) →
    (c : ℕ) → circular t c ≡ cond (contains nat_cmp cells c) (contains nat_cmp rest c) (contains nat_cmp cyclic c)
