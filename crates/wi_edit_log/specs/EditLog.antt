-- The log of accepted edits: who edited which cells.
use Rattle.std.specs.Prelude.{ℕ, ◌==◌, ◌&&◌, not, min, List, drop, filter, Option}
use Rattle.std.specs.List.{list_any, flat_map, reduce}
use Rattle.wi_values.specs.Address.{Area, is_within_one, cells_of}

-- an accepted edit, and the rectangles that it named
pub record Entry : Type 0 where
  pub session : ℕ
  pub areas : List Area

-- the first cell, in row-major order, that an edit of another session after the first `since` names
abbrev pub first_stale : List Entry → ℕ → ℕ → List Area → Option ℕ
first_stale log session since areas =
    reduce min (filter (λ a. list_any (λ e. not (e.session == session) && is_within_one e.areas a) (drop since log)) (flat_map cells_of areas))
