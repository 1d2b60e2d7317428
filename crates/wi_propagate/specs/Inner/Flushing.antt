-- What is stamped while dirty cells are flushed.
use Rattle.std.specs.Prelude.{ℕ, List, map}

-- the cells of numbered cells
abbrev pub second_cells : List (ℕ × ℕ) → List ℕ
second_cells es = map (λ e. e.1) es
