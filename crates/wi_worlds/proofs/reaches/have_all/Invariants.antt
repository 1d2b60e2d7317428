use Rattle.wi_worlds.proofs.Words.{◌≡◌, true, take, list_all, is_one_of}
use Rattle.wi_worlds.proofs.reaches.have_all.Given as goal

-- the cells have those passed
abbrev pub invariant-loop-replacement : goal.invariant-loop-replacement
invariant-loop-replacement l = list_all (λ r. is_one_of l.cells r.at) (take l.replacement-index l.replacements) ≡ true
