use Rattle.wi_sessions.proofs.Words.{◌≡◌, ◌++◌, drop, is_in}
use Rattle.std.specs.Prelude.{filter}
use Rattle.wi_sessions.proofs.cells.push_those.Given as goal

abbrev pub invariant-loop-at : goal.invariant-loop-at
invariant-loop-at l = l.found.items ++ filter (is_in l.words.entries l.i) (drop l.at-index l.cells) ≡ l.initial.found.items ++ filter (is_in l.words.entries l.i) l.cells
