use Rattle.wi_engine.proofs.Words.{◌≡◌, ◌∷◌, ◌++◌, ◌-◌, take, lacking_after}
use Rattle.wi_engine.proofs.lacking.with_next_lacking.Given as goal

-- what is listed, and what is still to be listed
abbrev pub invariant-loop : goal.invariant-loop
invariant-loop l =
    l.listed.items ++ take (l.count - l.counter) (lacking_after l.store.sheet l.frame.key.world l.frame.found l.area l.last)
    ≡ l.fn.at ∷ take (l.count - 1) (lacking_after l.store.sheet l.frame.key.world l.frame.found l.area l.fn.at)
