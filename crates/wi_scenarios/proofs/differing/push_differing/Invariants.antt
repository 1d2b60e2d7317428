use Rattle.wi_scenarios.proofs.Words.{◌≡◌, ◌++◌, drop, differing}
use Rattle.wi_scenarios.proofs.differing.push_differing.Given as goal

-- what is appended and what is still to come is what was to come
abbrev pub invariant-loop-replacement : goal.invariant-loop-replacement
invariant-loop-replacement l =
    l.cells.items ++ differing l.before l.after (drop l.replacement-index l.among) ≡ l.initial.cells.items ++ differing l.before l.after l.among
