use Rattle.wi_engine.proofs.Words.{◌≡◌, drop, find, keys_of, is_within, as_map}
use Rattle.wi_engine.proofs.filled.first_within.Given as goal

abbrev pub invariant-loop-replacement : goal.invariant-loop-replacement
invariant-loop-replacement l =
    find (is_within l.area) (keys_of (as_map (drop l.replacement-index l.replacements))) ≡ find (is_within l.area) (keys_of (as_map l.replacements))
