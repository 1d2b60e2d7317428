use Rattle.wi_scenario_list.proofs.Words.{◌≡◌, overridden, as_replacements}
use Rattle.wi_scenario_list.proofs.entries.merge.Given as goal

-- what is left to be put in leads to the whole
abbrev pub invariant-loop-at : goal.invariant-loop-at
invariant-loop-at l = overridden l.map.entries (as_replacements l.at-iterator) ≡ overridden l.initial.map.entries (as_replacements l.initial.others.entries)
