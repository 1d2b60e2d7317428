use Rattle.wi_sessions.proofs.Words.{◌≡◌, ◌++◌, drop, not, is_staged}
use Rattle.std.specs.Prelude.{filter}
use Rattle.wi_sessions.proofs.pending.without_rooms.Given as goal

abbrev pub invariant-loop-at : goal.invariant-loop-at
invariant-loop-at l = l.found.items ++ filter (λ c. not (is_staged l.staged l.i c)) (drop l.at-index l.cells) ≡ filter (λ c. not (is_staged l.staged l.i c)) l.cells
