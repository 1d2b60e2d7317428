-- In what order cells with a formula are read.
use Rattle.std.specs.Prelude.{◌≡◌, ℕ, true, false, List, ◌∷◌, ◌++◌}
use Rattle.wi_values.specs.Address.{is_one_of}
use Rattle.wi_parser.specs.Sheet.{Sheet, content_of, has_formula}
use Rattle.wi_parser.specs.Reads.{content_reads}

-- the cell may stand after these: it has a formula, each cell with a formula that it reads is one of these, and the
-- cell itself is none of these
pub record MayFollow (s : Sheet) (cells : List ℕ) (c : ℕ) : Type 0 where
  pub formula : has_formula (content_of s c) ≡ true
  pub reads : (d : ℕ) → content_reads (content_of s c) d ≡ true → has_formula (content_of s d) ≡ true → is_one_of cells d ≡ true
  pub once : is_one_of cells c ≡ false

-- each cell may stand after those before it
pub record IsReadOrder (s : Sheet) (order : List ℕ) : Type 0 where
  pub each : (front back : List ℕ) (c : ℕ) → order ≡ front ++ c ∷ back → MayFollow s front c
