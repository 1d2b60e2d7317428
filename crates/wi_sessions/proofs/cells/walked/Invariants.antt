use Rattle.wi_sessions.proofs.Words.{◌≡◌, ◌++◌, ◌+◌, length, cells_with}
use Rattle.wi_sessions.proofs.cells.walked.Given as goal

-- what was found, with what is still to come, is all
abbrev pub invariant-loop : goal.invariant-loop
invariant-loop l = record {
  cells : l.found.items ++ cells_with l.rest l.i ≡ cells_with l.words.entries l.i;
  left : length l.rest + l.counter ≡ length l.words.entries;
}
