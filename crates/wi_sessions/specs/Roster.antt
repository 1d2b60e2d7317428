-- All sessions, with their pending cells.
use Rattle.std.specs.Prelude.{◌≡◌, ℕ, Bool, List, []}
use Rattle.std.specs.List.{slice_index_or, list_all}
use Rattle.wi_values.specs.Address.{is_one_of}
use Rattle.wi_sessions.specs.Sessions.{Session, new_session}

-- The sessions in order of making, and for each in the same order the cells that are pending, and those for which there
-- is room only.
pub record Roster : Type 0 where
  pub sessions : List Session
  pub pending : List (List ℕ)
  pub vacant : List (List ℕ)

-- the i-th session
abbrev pub session_at : Roster → ℕ → Session
session_at r i = slice_index_or r.sessions i (new_session [])

-- the cells that are pending for the i-th session
abbrev pub pending_of : Roster → ℕ → List ℕ
pending_of r i = slice_index_or r.pending i []

-- the cell is pending for each session
abbrev pub is_pending_for_all : Roster → ℕ → Bool
is_pending_for_all r a = list_all (λ cells. is_one_of cells a) r.pending

-- the cells for which there is room in the list of the i-th session
abbrev pub vacant_of : Roster → ℕ → List ℕ
vacant_of r i = slice_index_or r.vacant i []

-- two lists have the same cells, in whatever order
abbrev pub SameCells : List ℕ → List ℕ → Type 0
SameCells xs ys = (a : ℕ) → is_one_of xs a ≡ is_one_of ys a
