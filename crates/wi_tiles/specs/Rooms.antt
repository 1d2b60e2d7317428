-- Rooms: cells of a map, each with something or vacant. A room is vacant only while an edit goes on.
use Rattle.std.specs.Prelude.{◌≡◌, ◌==◌, ◌↔◌, ℕ, Bool, true, false, List, [], ◌∷◌, All, filter, Option, Some, None, is_some, unwrap_or, if◌then◌else◌, refl}
use Rattle.std.specs.Ordering.{nat_cmp}
use Rattle.std.specs.Map.{lookup, keys_of}
use Rattle.std.specs.BTreeMap.{is_at}
use Rattle.std.specs.List.Sorted.{IsStrictlySortedBy}
use Rattle.wi_values.specs.Address.{is_one_of}
use Rattle.wi_values.specs.declared.value.Value.{Value}
use Rattle.wi_values.specs.declared.value.Value.TheVariants.{Empty, Number, Text, Logical, Fault}

module _ {X : Type 0} where
  -- what the room of a cell has, if it has a room
  abbrev pub room_of : List (ℕ × X) → ℕ → Option X
  room_of rooms c = lookup (is_at (nat_cmp c)) rooms

  -- each cell has at most one room, and the rooms stand in row-major order
  abbrev pub RoomsAreInOrder : List (ℕ × X) → Type 0
  RoomsAreInOrder rooms = IsStrictlySortedBy nat_cmp (keys_of rooms)

  -- the rooms that have something
  abbrev pub taken : (X → Bool) → List (ℕ × X) → List (ℕ × X)
  taken is_taken rooms = filter (λ e. is_taken e.1) rooms

  -- ---- what each cell has, and what it has after changes

  -- one cell has this, and each other what it had
  abbrev pub with_one : (ℕ → X) → ℕ × X → ℕ → X
  with_one held change c = if c == change.0 then change.1 else held c

  -- after changes, one after another
  abbrev pub with_all : (ℕ → X) → List (ℕ × X) → ℕ → X
  with_all held [] c = held c
  with_all held (e ∷ es) c = with_all (with_one held e) es c

  -- what each cell has when its turn comes
  abbrev pub stood : (ℕ → X) → List (ℕ × X) → List (ℕ × X)
  stood held [] = []
  stood held (e ∷ es) = (e.0, held e.0) ∷ stood (with_one held e) es

  -- after changes, the last first
  abbrev pub with_all_back : (ℕ → X) → List (ℕ × X) → ℕ → X
  with_all_back held [] c = held c
  with_all_back held (e ∷ es) c = with_one (with_all_back held es) e c

module _ {X : Type 0} (vacant : X) where
  -- what a cell has, whether it has a room or not
  abbrev pub held_at : List (ℕ × X) → ℕ → X
  held_at rooms c = unwrap_or (room_of rooms c) vacant

  -- each cell has the same before and after
  abbrev pub HoldsTheSame : List (ℕ × X) → List (ℕ × X) → Type 0
  HoldsTheSame old new = (c : ℕ) → held_at new c ≡ held_at old c

  -- no room is vacant
  abbrev pub HasNoVacancy : List (ℕ × X) → Type 0
  HasNoVacancy rooms = (c : ℕ) → room_of rooms c ≡ Some vacant → ⊥

  -- no other room than those of the cells is vacant
  abbrev pub VacantOnlyAt : List ℕ → List (ℕ × X) → Type 0
  VacantOnlyAt cells rooms = (c : ℕ) → room_of rooms c ≡ Some vacant → is_one_of cells c ≡ true

  -- the cell has a room, or gets nothing
  abbrev pub HasRoomFor : List (ℕ × X) → ℕ × X → Type 0
  HasRoomFor rooms change = room_of rooms change.0 ≡ None → change.1 ≡ vacant

  -- ---- rooms between two edits, and in the course of one

  -- No edit goes on: the rooms stand in order, and none is vacant.
  pub record AreBetweenEdits (rooms : List (ℕ × X)) : Type 0 where
    pub order : RoomsAreInOrder rooms
    pub full : HasNoVacancy rooms

  -- An edit of the cells goes on: the rooms stand in order, and no other than those of the cells is vacant.
  pub record AreInEdit (cells : List ℕ) (rooms : List (ℕ × X)) : Type 0 where
    pub order : RoomsAreInOrder rooms
    pub only : VacantOnlyAt cells rooms

  -- An edit of the changes' cells goes on, and each of them that gets something has a room. So what the rooms have can
  -- be exchanged with what the changes bring.
  pub record AreReadyFor (changes rooms : List (ℕ × X)) : Type 0 where
    pub edit : AreInEdit (keys_of changes) rooms
    pub room : All (HasRoomFor rooms) changes

-- ---- of options None is vacant

pub tells_none : {X : Type 0} (o : Option X) → (is_some o ≡ false) ↔ (o ≡ None)
tells_none None = (λ e. refl, λ e. refl)
tells_none (Some x) = (λ e. cc, λ e. cc)

-- ---- and of values Empty

abbrev pub has_value : Value → Bool
has_value Empty = false
has_value v = true

pub tells_empty : (v : Value) → (has_value v ≡ false) ↔ (v ≡ Empty)
tells_empty Empty = (λ e. refl, λ e. refl)
tells_empty (Number x) = (λ e. cc, λ e. cc)
tells_empty (Text t) = (λ e. cc, λ e. cc)
tells_empty (Logical b) = (λ e. cc, λ e. cc)
tells_empty (Fault k) = (λ e. cc, λ e. cc)
