-- The path of a draft.
use Rattle.wi_engine.proofs.Words.{◌≡◌, ℕ, true, List, Option, Some, None, All, refl, Sheet, Content, Constant, Formula, content_of, has_formula, content_reads, MemoState, IsMemoOf, MayBeRead}
use Rattle.wi_engine.specs.declared.planning.Reading.{Reading}
use Rattle.wi_engine.proofs.engine.NextCases.{may_be_read}

-- each cell of a path may be read
abbrev pub AreReadable : Sheet → MemoState → List Reading → Type 0
AreReadable s m rs = All (λ r. MayBeRead s m r.cell) rs

reads_formula : (o : Option Content) (d : ℕ) → content_reads o d ≡ true → has_formula o ≡ true
reads_formula None d h = h
reads_formula (Some (Constant v)) d h = h
reads_formula (Some (Formula t)) d h = refl

-- what such a cell reads may be read
pub readable_below : (s : Sheet) (m : MemoState) (c d : ℕ) → IsMemoOf s m → MayBeRead s m c → content_reads (content_of s c) d ≡ true → MayBeRead s m d
readable_below s m c d h o r = may_be_read s m c d h o.open_cell (o.covered (reads_formula (content_of s c) d r)) r
