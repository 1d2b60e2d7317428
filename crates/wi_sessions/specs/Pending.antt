-- The cells that may differ from the sessions' pictures.
use Rattle.std.specs.Prelude.{ℕ, List, []}
use Rattle.std.specs.List.{slice_index_or}

-- For each session in order of making the cells that are pending, and those for which there is room only.
pub record AllPending : Type 0 where
  pub pending : List (List ℕ)
  pub vacant : List (List ℕ)

-- the i-th of some lists
abbrev pub list_at : List (List ℕ) → ℕ → List ℕ
list_at lists i = slice_index_or lists i []
