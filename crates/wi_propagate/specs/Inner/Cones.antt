-- What is told of the cells that reach replaced ones, of all cells.
use Rattle.std.specs.Prelude.{◌≡◌, ℕ, Bool, true, nat_lt, length}
use Rattle.wi_worlds.specs.Reached.{ReachTable, is_known, reached_by, reached_cells}
use Rattle.wi_parser.specs.Sheet.{Sheet}
use Rattle.wi_graph.specs.Reach.{reaches}

-- what is told is so, and of known cells; and of each it is told of all that reach it
pub record AreAllCones (s : Sheet) (t : ReachTable) : Type 0 where
  pub of_known : (c a : ℕ) → reached_by t c a ≡ true → is_known t a ≡ true
  pub so : (c a : ℕ) → reached_by t c a ≡ true → reaches s c a ≡ true
  pub all : (c a : ℕ) → is_known t a ≡ true → reaches s c a ≡ true → reached_by t c a ≡ true

-- it is told of c that it reaches some cell
abbrev pub is_in_one : ReachTable → ℕ → Bool
is_in_one t c = nat_lt 0 (length (reached_cells t c))
