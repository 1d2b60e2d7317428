-- Which cells a cell rests on: its precedents at any remove, and the cone of its dependents at any remove.
use Rattle.std.specs.Prelude.{◌≡◌, ◌==◌, ℕ, zero, suc, Bool, true, false, ◌&&◌, ◌||◌, List, length}
use Rattle.std.specs.List.{list_any}
use Rattle.wi_values.specs.Address.{is_one_of}
use Rattle.wi_parser.specs.Sheet.{Sheet, content_of, cells_with_formula}
use Rattle.wi_parser.specs.Reads.{content_reads}

-- so many steps lead from c to d, each from a cell to one that it reads
abbrev pub Walks : ℕ → Sheet → ℕ → ℕ → Type 0
Walks zero s c d = c ≡ d
Walks (suc n) s c d = (e : ℕ) × (content_reads (content_of s c) e ≡ true) × Walks n s e d

-- some steps, or none, lead from c to d
abbrev pub Reaches : Sheet → ℕ → ℕ → Type 0
Reaches s c d = (n : ℕ) × Walks n s c d

-- the two sheets have the same content in all that c reaches in the first
abbrev pub AgreeFrom : Sheet → Sheet → ℕ → Type 0
AgreeFrom s t c = (d : ℕ) → Reaches s c d → content_of s d ≡ content_of t d

-- c reaches one of these cells
abbrev pub IsInCone : Sheet → List ℕ → ℕ → Type 0
IsInCone s xs c = (a : ℕ) × (is_one_of xs a ≡ true) × Reaches s c a

-- the two sheets have the same content in all cells but these
abbrev pub SameOff : Sheet → Sheet → List ℕ → Type 0
SameOff s t xs = (d : ℕ) → is_one_of xs d ≡ false → content_of s d ≡ content_of t d

-- c is a, or reaches it by at most n steps from a formula to a formula, and one more to a
abbrev pub reaches_by : ℕ → Sheet → ℕ → ℕ → Bool
reaches_by zero s c a = c == a || content_reads (content_of s c) a
reaches_by (suc n) s c a = (c == a || content_reads (content_of s c) a) || list_any (λ d. content_reads (content_of s c) d && reaches_by n s d a) (cells_with_formula s)

-- c reaches a, as a test
unfoldable pub reaches : Sheet → ℕ → ℕ → Bool
reaches s c a = reaches_by (length (cells_with_formula s)) s c a

-- c is in the cone of these cells, as a test
abbrev pub in_cone : Sheet → List ℕ → ℕ → Bool
in_cone s xs c = list_any (reaches s c) xs
