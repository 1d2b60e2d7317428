-- How far a cell stands above those that read no formula.
use Rattle.std.specs.Prelude.{ℕ, zero, suc, ◌+◌, if◌then◌else◌, length}
use Rattle.wi_parser.specs.Sheet.{Sheet, cells_with_formula}
use Rattle.wi_graph.specs.Inner.Walks.{has_walk}

-- how many of the lengths below n are those of walks from c
abbrev pub lengths_below : ℕ → Sheet → ℕ → ℕ
lengths_below zero s c = 0
lengths_below (suc n) s c = (if has_walk n s c then 1 else 0) + lengths_below n s c

-- A cell's rank: how many lengths there are of walks from it, below the number of formulas. From a cell that is not
-- circular it falls to each formula that the cell reads, so no calculation goes deeper than this.
unfoldable pub reach_rank : Sheet → ℕ → ℕ
reach_rank s c = lengths_below (length (cells_with_formula s)) s c
