use Rattle.wi_worlds.proofs.Words.{◌≡◌, drop, overridden}
use Rattle.wi_worlds.proofs.entries.insert_copies.Given as goal

-- what is left to be put in leads to the whole
abbrev pub invariant-loop-replacement : goal.invariant-loop-replacement
invariant-loop-replacement l = overridden l.map.entries (drop l.replacement-index l.replacements) ≡ overridden l.initial.map.entries l.initial.replacements
