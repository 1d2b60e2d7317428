-- The rooms of a store: cells that may have a content. A room is vacant only while an edit goes on.
use Rattle.std.specs.Prelude.{ℕ, List, [], ◌∷◌, filter, Option, Some, None, option_map}
use Rattle.std.specs.Borrow.{Bor}
use Rattle.std.specs.List.{filter_map}
use Rattle.std.specs.Map.{keys_of}
use Rattle.wi_parser.specs.Sheet.{Sheet, has_formula}
use Rattle.wi_parser.specs.declared.content.Content.{Content}

-- cells with their contents, in row-major order
abbrev pub Rooms : Type 0
Rooms = List (ℕ × Option Content)

-- what stands in a room, with its cell
abbrev pub occupant : ℕ × Option Content → Option (ℕ × Content)
occupant room = option_map (λ x. (room.0, x)) room.1

-- a content that is lent, with its cell
abbrev pub occupied : ℕ × Bor Content → ℕ × Content
occupied x = (x.0, x.1.now)

-- the contents of the rooms that are not vacant
abbrev pub sheet_in : Rooms → Sheet
sheet_in rooms = filter_map occupant rooms

-- the cells of contents that are formulas
abbrev pub formula_cells : Sheet → List ℕ
formula_cells s = keys_of (filter (λ e. has_formula (Some e.1)) s)

-- the room has a content
abbrev pub IsOccupied : Option Content → Type 0
IsOccupied None = ⊥
IsOccupied (Some x) = Unit {0}

-- each of the rooms has a content
abbrev pub HaveContents : Rooms → Type 0
HaveContents [] = Unit {0}
HaveContents (e ∷ es) = IsOccupied e.1 × HaveContents es
