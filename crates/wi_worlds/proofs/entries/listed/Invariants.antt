use Rattle.wi_worlds.proofs.Words.{◌≡◌, ◌++◌, as_map}
use Rattle.wi_worlds.proofs.entries.listed.Given as goal

abbrev pub invariant-loop-at : goal.invariant-loop-at
invariant-loop-at l = as_map l.replacements.items ++ l.at-iterator ≡ l.initial.at-iterator
