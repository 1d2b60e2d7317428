-- Walks of some length between formulas.
use Rattle.std.specs.Prelude.{ℕ, zero, suc, Bool, ◌&&◌}
use Rattle.std.specs.List.{list_any}
use Rattle.wi_parser.specs.Sheet.{Sheet, content_of, has_formula, cells_with_formula}
use Rattle.wi_parser.specs.Reads.{content_reads}

-- from c lead n steps, each from a cell with a formula to one with a formula that it reads
abbrev pub has_walk : ℕ → Sheet → ℕ → Bool
has_walk zero s c = has_formula (content_of s c)
has_walk (suc n) s c = list_any (λ d. content_reads (content_of s c) d && has_walk n s d) (cells_with_formula s)
