-- Cells at which a search for dependents may stop.
use Rattle.std.specs.Prelude.{◌≡◌, ℕ, Bool, true}
use Rattle.wi_parser.specs.Sheet.{Sheet, content_of}
use Rattle.wi_parser.specs.Reads.{content_reads}

-- with each cell that passes the test each that reads it passes
abbrev pub IsClosedUp : Sheet → (ℕ → Bool) → Type 0
IsClosedUp s p = (c d : ℕ) → content_reads (content_of s c) d ≡ true → p d ≡ true → p c ≡ true

-- each cell that passes the test is read by the same cells in both sheets
abbrev pub AreReadAlike : (ℕ → Bool) → Sheet → Sheet → Type 0
AreReadAlike p s t = (c d : ℕ) → p d ≡ true → content_reads (content_of s c) d ≡ content_reads (content_of t c) d
