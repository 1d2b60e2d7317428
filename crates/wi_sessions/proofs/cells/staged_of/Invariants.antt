use Rattle.wi_sessions.proofs.Words.{◌≡◌, ℕ, take, has_bit, is_staged}
use Rattle.wi_sessions.proofs.cells.staged_of.Given as goal

-- those of the rooms before this one
abbrev pub invariant-loop-cell : goal.invariant-loop-cell
invariant-loop-cell l = (i : ℕ) → has_bit i l.bits ≡ is_staged (take l.cell-index l.staged) i l.at
